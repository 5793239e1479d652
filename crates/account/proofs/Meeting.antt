-- All that the search uses of conditions: what is met depends only on the values of the decisions named, and a met condition names only chosen decisions.
use Rattle.std.proofs.lemmas.Grind.{common_steps}
use Rattle.std.proofs.Common.{◌≡◌, ℕ, ◌<◌, ◌≤◌, true, false, length, ◌∙◌, arith}
use Rattle.rules.specs.Conditions.{Plan, names, condition, met}
use Rattle.rules.specs.declared.row.Row.{Row}
use Rattle.rules.proofs.Conditions.{meets_same, named_chosen}

-- a plan that has the values of a plan for the decisions that a row names meets it too
pub met_same : (r : Row) (p q : Plan) → ((x : ℕ) → names (condition r) x ≡ true → q x ≡ p x) → met p r ≡ true → met q r ≡ true
met_same r p q same h = meets_same q p (condition r) same ∙ h

-- a met row names only chosen decisions
pub met_chosen : (r : Row) (p : Plan) → met p r ≡ true → (x : ℕ) → names (condition r) x ≡ true → 0 < p x
met_chosen r p h x n = named_chosen p (condition r) x h n

-- a plan that has no more choices than another meets no more
pub met_fewer : (r : Row) (p q : Plan) → ((x : ℕ) → 0 < p x → q x ≡ p x) → met p r ≡ true → met q r ≡ true
met_fewer r p q same h = met_same r p q (λ x n. same x (met_chosen r p h x n)) h

-- a row with a pair is not met by the plan with no choice
pub met_nothing : (r : Row) → 1 ≤ length (condition r) → (p : Plan) → ((x : ℕ) → p x ≡ 0) → met p r ≡ false
met_nothing r some p idle = grind (arith, common_steps)
