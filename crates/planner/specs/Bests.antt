-- The best that a planner holds.
use Rattle.std.specs.Prelude.{Bool, true, false, Some, None, Option}
use Rattle.account.specs.Accounts.{Best as Held}
use Rattle.rules.specs.Conditions.{from_bytes}
use Rattle.planner.specs.declared.best.Best.{Best}

-- the best, its bytes read as a plan
abbrev pub best_of : {M : Type 0} → Best M → Held M
best_of b = record { plan = from_bytes b.plan; cost = b.cost }

-- the cost of the best, if one is held
abbrev pub cost_held : {C : Type 0} → Option (Held C) → Option C
cost_held None = None
cost_held (Some b) = Some b.cost

-- a best, unless a test tells against it
abbrev pub unless_told : {C : Type 0} → Bool → Option (Held C) → Option (Held C)
unless_told true best = None
unless_told false best = best
