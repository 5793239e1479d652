-- The exclusions that flat tables stand for.
use Rattle.std.specs.Prelude.{ℕ, ◌+◌, ◌-◌, ◌*◌, Bool, cond, not, ◌&&◌, ◌||◌, Some, None, Option, nat_lt, slice_index, slice_index_or}
use Rattle.rules.specs.Plans.{Set}
use Rattle.rules.specs.Refusals.{when}
use Rattle.account.specs.Accounts.{Exclusion}
use Rattle.sets.specs.Members.{members, values}
use Rattle.sets.specs.Searches.{some_below}
use Rattle.sets.specs.declared.decision_set.DecisionSet.{DecisionSet}
use Rattle.sets.specs.declared.value_set.ValueSet.{ValueSet}
use Rattle.tables.specs.declared.exclusions.Exclusions.{Exclusions}

-- the set of no value
abbrev pub no_value : ValueSet
no_value = record { bits = 0 }

-- an exclusion by the bits of its reason
abbrev pub exclusion_by : ℕ → Bool → Exclusion
exclusion_by reason resting = record { reason = members (record { bits = reason }); rests = resting }

-- where the reason of a value of a decision stands
abbrev pub cell_of : ℕ → ℕ → ℕ
cell_of d v = 16 * d + (v - 1)

-- whether a value is in its decision's set of excluded ones
abbrev pub is_excluded : Exclusions → ℕ → ℕ → Bool
is_excluded x d v = values (slice_index_or x.excluded d no_value) v

-- what stands in the tables for a value
abbrev pub stored_at : Exclusions → ℕ → ℕ → Exclusion
stored_at x d v = exclusion_by (slice_index x.reasons (cell_of d v)) (values (slice_index_or x.resting d no_value) v)

-- the exclusion of each value of the decisions below 64
unfoldable pub exclusions_of : Exclusions → ℕ → ℕ → Option Exclusion
exclusions_of x d v = when (nat_lt d 64 && is_excluded x d v) (stored_at x d v)

-- what a look-up answers, as an exclusion
abbrev pub as_exclusion : Option (DecisionSet × Bool) → Option Exclusion
as_exclusion None = None
as_exclusion (Some e) = Some (record { reason = members e.0; rests = e.1 })

-- an exclusion goes if its reason has a decision of a set
abbrev pub unless_meets : Set → Option Exclusion → Option Exclusion
unless_meets s None = None
unless_meets s (Some e) = cond (some_below (λ x. e.reason x && s x) 64) None (Some e)

-- whether an exclusion stays: its reason has no decision of a set, and it does not rest on the best, unless those stay too
abbrev pub spared : Set → Bool → Exclusion → Bool
spared s resting e = not (some_below (λ x. e.reason x && s x) 64) && (resting || not e.rests)
