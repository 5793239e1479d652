-- The tests of a decision's values, one after the other.
use Rattle.std.specs.Prelude.{ℕ, Bool, true, false, ◌&&◌, Some, None, Option, ◌==◌}
use Rattle.std.specs.Option.{option_or}
use Rattle.account.specs.Accounts.{Exclusion, except}
use Rattle.account.specs.Steps.{by_forbid, choose, first_met, is_value, price_reason, reaches}
use Rattle.measure.specs.Meaning.{Meaning}
use Rattle.rules.specs.Conditions.{Plan}
use Rattle.rules.specs.Plans.{Book, cost}
use Rattle.rules.specs.Refusals.{when}

-- the exclusion that a best's cost gives a plan, if one is held
abbrev pub by_cost : {C : Type 0} → Meaning C → Book → ℕ → Plan → Option C → Option Exclusion
by_cost m b d p None = None
by_cost m b d p (Some best) = when (reaches m best (cost m b.prices p)) (record { reason = except (price_reason m b best p) d; rests = true })

-- the test of a plan: first the forbid rules, then the cost
unfoldable pub try_plan : {C : Type 0} → Meaning C → Book → Option C → ℕ → Plan → Option Exclusion
try_plan m b best d p = option_or (by_forbid d (first_met b.forbids p)) (by_cost m b d p best)

-- an exclusion that there is, or else what a test gives, if it is asked
abbrev pub or_tried : Option Exclusion → Bool → Option Exclusion → Option Exclusion
or_tried (Some e) asked t = Some e
or_tried None false t = None
or_tried None true t = t

-- the exclusions, with the values 1 to n of d tested that have none
unfoldable pub tried_to : {C : Type 0} → Meaning C → Book → Option C → Plan → (ℕ → ℕ → Option Exclusion) → ℕ → ℕ → ℕ → ℕ → Option Exclusion
tried_to m b best p ex d n x w = or_tried (ex x w) (x == d && is_value n w) (try_plan m b best d (choose p d w))
