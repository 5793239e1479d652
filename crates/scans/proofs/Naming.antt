-- The decisions that the pairs of a condition name.
use Rattle.std.proofs.Common.{◌≡◌, ℕ, Bool, true, ◌&&◌, ◌||◌, eqb, ltb, List, [], ◌∷◌, refl, ap, ◌∙◌, ap₂}
use mathlib.Core.Bool.{and-true}
use mathlib.Core.Path.{fun_ext}
use Rattle.std.proofs.lemmas.Bool.{and_parts}
use Rattle.rules.specs.Conditions.{names}
use Rattle.rules.specs.Judging.{known_decisions}
use Rattle.rules.specs.declared.literal.Literal.{Literal}
use Rattle.rules.proofs.Folds.{gathered}

-- known pairs name decisions that a set can hold
pub gathered_known : (ls : List Literal) → known_decisions 64 ls ≡ true → gathered (λ l. l.decision) ls ≡ names ls
gathered_known ls h = fun_ext (λ (x : ℕ). at x ls h)
  where
    at : (x : ℕ) (ls : List Literal) → known_decisions 64 ls ≡ true → gathered (λ l. l.decision) ls x ≡ names ls x
    at x [] h = refl
    at x (l ∷ ls) h =
        let (low, rest) = and_parts (ltb l.decision 64) (known_decisions 64 ls) h in
        ap₂ (λ (p q : Bool). p || q) (ap (λ (b : Bool). eqb x l.decision && b) low ∙ and-true (eqb x l.decision)) (at x ls rest)
