-- The fields of a line counted one by one.
use Rattle.std.proofs.lemmas.Grind.{common_steps}
use Rattle.std.proofs.Common.{◌≡◌, ℕ, ◌+◌, Bool, not, ◌||◌, List, [], ◌∷◌, length, refl, sym, ap, ap₂, ◌∙◌, option_map, arith}
use Rattle.std.specs.List.{enumerate_from, find}
use Rattle.std.proofs.lemmas.Iterator.{YieldsList}
use Rattle.std.proofs.lemmas.Iterator.Consumers.{YieldsList-from_shown}
use Rattle.reading.specs.Cursors.{Taken, column, left}
use Rattle.reading.specs.Pieces.{is_nil}
use Rattle.reading.specs.declared.pieces.Piece.{Piece}
use Rattle.reading.specs.declared.pieces.Pieces.{Pieces}
use Rattle.statements.specs.Fields.{first_bad, takes_field}
use Rattle.statements.specs.declared.line.LineKind.{LineKind}

-- a cursor gives the pieces that are left
pub pieces_yielded : (p : Pieces) → YieldsList Taken (λ x. x.bytes.now) p (left p)
pieces_yielded = YieldsList-from_shown Taken (λ x. x.bytes.now) left (λ s t h. ap length h.0) (λ s x t h. h.first)

-- fields with their columns, of fields that begin at column c
abbrev located : ℕ → List (List ℕ) → List (ℕ × List ℕ)
located c [] = []
located c (f ∷ fs) = (c, f) ∷ located (c + length f + 1) fs

-- a cursor gives them with their columns
abbrev pub seen : Piece → ℕ × List ℕ
seen x = (x.column, x.bytes.now)

pub pieces_located : (p : Pieces) → YieldsList Taken seen p (located (column p) (left p))
pieces_located =
    YieldsList-from_shown Taken seen (λ p. located (column p) (left p)) (λ s t h. ap (λ ps. length (located (column s) ps)) h.0)
    (λ s x t h. ap (located (column s)) h.first ∙ ap₂ (λ (c n : ℕ). (c, x.bytes.now) ∷ located n (left t)) (sym h.place) (sym h.next))

-- whether a field at a place is empty or too many
abbrev pub bad : LineKind → ℕ × (ℕ × List ℕ) → Bool
bad k p = is_nil p.1.1 || not (takes_field k p.0)

-- the column of the first such field
pub bad_found : (k : LineKind) (n c : ℕ) (fs : List (List ℕ)) → option_map (λ p. p.1.0) (find (bad k) (enumerate_from n (located c fs))) ≡ first_bad k n c fs
unfolding first_bad
bad_found k n c [] = refl
bad_found k n c (f ∷ fs) = grind (arith, common_steps, bad_found k (n + 1) (c + length f + 1) fs)
