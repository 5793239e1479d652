-- What the price rules from each place on cost.
use Rattle.std.specs.Prelude.{◌≡◌, ℕ, ◌≤◌, cond, List, length, drop, slice_index_or}
use Rattle.measure.specs.Meaning.{Meaning}
use Rattle.rules.specs.Conditions.{Plan, met}
use Rattle.rules.specs.Plans.{cost}
use Rattle.rules.specs.declared.row.Row.{Row}

-- a row's price joined to what comes after it, if the plan meets the row
abbrev pub priced : {C : Type 0} → Meaning C → Plan → Row → C → C
priced m p r later = cond (met p r) (m.joins (m.reads r.price) later) later

-- from place i on, a table has at each place what the rows from there on cost
abbrev pub Suffixes : {C : Type 0} → Meaning C → List Row → Plan → List C → ℕ → Type 0
Suffixes {C} m rs p costs i = (k : ℕ) (d : C) → i ≤ k → k ≤ length rs → slice_index_or costs k d ≡ cost m (drop k rs) p
