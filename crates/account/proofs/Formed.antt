-- The shape that every account reached by calls has, as far as the step bound needs it.
use Rattle.std.proofs.Common.{◌≡◌, ℕ, ◌<◌, ◌≤◌, true, List, [], ◌∷◌, Some, None}
use Rattle.rules.specs.Plans.{size_at}
use Rattle.rules.specs.declared.decision.Decision.{Decision}
use Rattle.account.specs.Accounts.{Account, Entry, Exclusion, chosen}

-- a trail, newest first: no decision twice, every value in range
abbrev pub Distinct : List Decision → List Entry → Type 0
Distinct ds [] = Unit {0}
Distinct ds (e ∷ es) = (chosen es e.decision ≡ 0) × (1 ≤ e.value) × (e.value ≤ size_at ds e.decision) × Distinct ds es

pub record Formed {C : Type 0} (a : Account C) : Type 0 where
  -- the trail's decisions are distinct, and its values in range
  pub distinct : Distinct a.book.decisions a.trail
  -- only values that there are are excluded
  pub in_range : (d v : ℕ) (e : Exclusion) → a.exclusions d v ≡ Some e → (1 ≤ v) × (v ≤ size_at a.book.decisions d)
  -- a reason names decisions on the trail only
  pub reasoned : (d v : ℕ) (e : Exclusion) → a.exclusions d v ≡ Some e → (x : ℕ) → e.reason x ≡ true → 0 < chosen a.trail x
  -- a value on the trail is not excluded
  pub free : (d : ℕ) → 0 < chosen a.trail d → a.exclusions d (chosen a.trail d) ≡ None
