-- The active decisions, as rounds over a set of the first 64 find them.
use Rattle.std.proofs.lemmas.Grind.{common_steps}
use Rattle.std.proofs.Common.{◌≡◌, ℕ, zero, suc, ◌+◌, ◌-◌, ◌<◌, ◌≤◌, Bool, false, ◌&&◌, ◌||◌, leb, List, [], ◌∷◌, length, filter, sym, refl, ap, ◌∙◌, ap₂, zero-le, arith}
use mathlib.Core.Path.{fun_ext}
use Rattle.std.specs.List.{range_with_len, zip}
use Rattle.std.proofs.lemmas.Bool.{and_right, le-leb}
use Rattle.rules.proofs.Folds.{gathered}
use Rattle.rules.specs.Conditions.{Plan}
use Rattle.rules.specs.Plans.{Set, enables, grown, on_at, within}
use Rattle.rules.specs.declared.decision.Decision.{Decision}
use Rattle.rules.specs.declared.row.Row.{Row}

-- the numbers of numbered decisions
abbrev numbers_of : List (ℕ × Decision) → Set
numbers_of ps = gathered (λ p. p.0) ps

-- decisions numbered from n on, of which those that are marked on are kept
numbered : (n m : ℕ) (ds : List Decision) (x : ℕ) → length ds ≤ m → n + m ≤ 64 → numbers_of (filter (λ p. p.1.on) (zip (range_with_len n m) ds)) x ≡ (leb n x && on_at ds (x - n))
numbered n zero [] x few low = sym (and_right (leb n x) false refl)
numbered n (suc m) [] x few low = sym (and_right (leb n x) false refl)
numbered n (suc m) (d ∷ ds) x few low = grind (arith, common_steps, numbered (n + 1) m ds x (omega arith) (omega arith))
numbered n zero (d ∷ ds) x few low = absurd (omega arith)

-- the marked ones of 64 decisions at most
pub numbers_marked : (ds : List Decision) → length ds ≤ 64 → gathered (λ p. p.0) (filter (λ p. p.1.on) (zip (range_with_len 0 64) ds)) ≡ on_at ds
numbers_marked ds few = fun_ext (λ (x : ℕ). numbered 0 64 ds x few (omega arith) ∙ ap₂ (λ (b : Bool) (k : ℕ). b && on_at ds k) (le-leb 0 x zero-le) (omega arith))

module _ (p : Plan) (idle : (d : ℕ) → 64 ≤ d → p d ≡ 0) (s t : Set) (same : (d : ℕ) → d < 64 → s d ≡ t d) where
  -- sets that agree below 64 have the same choices
  same_within : within s p ≡ within t p
  same_within = grind (arith, common_steps)

  -- one round
  pub same_grown : (rs : List Row) (q : Plan) (new next : Set) → q ≡ within s p → ((d : ℕ) → d < 64 → new d ≡ enables rs q d) → next ≡ (λ (d : ℕ). s d || new d)
      → (d : ℕ) → d < 64 → next d ≡ grown rs p t d
  same_grown rs q new next chosen enabled joined d h =
      ap (λ (f : Set). f d) joined ∙ ap₂ (λ (x y : Bool). x || y) (same d h) (enabled d h ∙ ap (λ (f : Plan). enables rs f d) (chosen ∙ same_within))
