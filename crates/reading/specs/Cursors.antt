-- What a cursor over a text's pieces has still to give.
use Rattle.std.specs.Prelude.{◌≡◌, ℕ, ◌+◌, ◌-◌, cond, List, [], ◌∷◌, length, take, drop, Some, None, Option, nat_le}
use Rattle.reading.specs.Pieces.{pieces}
use Rattle.reading.specs.declared.pieces.Piece.{Piece}
use Rattle.reading.specs.declared.pieces.Pieces.{Pieces}

-- the pieces of a text from a place on; none once the place has passed the text's end
abbrev pub left_at : ℕ → List ℕ → ℕ → List (List ℕ)
left_at b xs place = cond (nat_le place (length xs)) (pieces b (drop place xs)) []

-- the pieces to come
abbrev pub left : Pieces → List (List ℕ)
left p = left_at p.at p.text.now p.place

-- the column of the next piece
abbrev pub column : Pieces → ℕ
column p = p.place + 1

-- a piece x taken from a cursor p, which leaves it as q: the first of those to come, which is the part of the text from its column on
pub record Took (p : Pieces) (x : Piece) (q : Pieces) : Type 0 where
  pub first : left p ≡ x.bytes.now ∷ left q
  pub place : x.column ≡ column p
  pub next : column q ≡ column p + length x.bytes.now + 1
  pub part : x.bytes.now ≡ take (length x.bytes.now) (drop (x.column - 1) p.text.now)
  pub text : q.text.now ≡ p.text.now
  pub cut : q.at ≡ p.at

-- what taking a piece answers and leaves: none, if none is to come, and the cursor stays
abbrev pub Taken : Pieces → Option Piece → Pieces → Type 0
Taken p None q = (left p ≡ []) × (q ≡ p)
Taken p (Some x) q = Took p x q
