-- Plans, pairs and conditions.
use Rattle.std.specs.Prelude.{ℕ, Bool, cond, ◌&&◌, List, take, ◌==◌, nat_lt, slice_index}
use Rattle.std.specs.List.{list_all, list_any}
use Rattle.rules.specs.declared.literal.Literal.{Literal}
use Rattle.rules.specs.declared.row.Row.{Row}

-- a plan gives each decision its value, or 0 where it leaves the decision idle
abbrev pub Plan : Type 0
Plan = ℕ → ℕ

-- the plan that bytes stand for: a byte for each decision
abbrev pub from_bytes : List ℕ → Plan
from_bytes bytes d = slice_index bytes d

-- the plan that bytes stand for, over n decisions: the bytes past those are no part of it
abbrev pub plan_of : ℕ → List ℕ → Plan
plan_of n bytes d = cond (nat_lt d n) (slice_index bytes d) 0

-- a plan has a pair if it chooses that value for that decision
abbrev pub has : Plan → Literal → Bool
has p l = nat_lt 0 l.value && p l.decision == l.value

-- a condition, which is a list of pairs, is met by a plan that has all of them
abbrev pub meets : Plan → List Literal → Bool
meets p ls = list_all (has p) ls

-- a condition names a decision that one of its pairs has
abbrev pub names : List Literal → ℕ → Bool
names ls d = list_any (λ l. d == l.decision) ls

-- the condition of a row is its first `count` pairs
abbrev pub condition : Row → List Literal
condition r = take r.count r.pairs

-- a plan meets a row if it meets its condition
abbrev pub met : Plan → Row → Bool
met p r = meets p (condition r)
