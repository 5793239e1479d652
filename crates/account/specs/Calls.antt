-- The calls on a planner as data: what each refuses, answers and leaves.
use Rattle.std.specs.Prelude.{ℕ, zero, suc, ◌+◌, Bool, true, false, cond, not, ◌&&◌, List, [], ◌∷◌, ◌++◌, map, length, drop, Some, None, Option, ◌==◌, nat_le, nat_lt}
use Rattle.std.specs.Option.{option_or}
use Rattle.std.specs.List.{range_with_len}
use Rattle.measure.specs.Meaning.{Meaning}
use Rattle.rules.specs.Conditions.{Plan}
use Rattle.rules.specs.Judging.{row_refusal}
use Rattle.rules.specs.Plans.{size_at}
use Rattle.rules.specs.Refusals.{when}
use Rattle.rules.specs.declared.refusal.Refusal.{Refusal}
use Rattle.rules.specs.declared.refusal.Refusal.TheVariants.{UnknownDecision, UnknownValue, TableFull, NoSuchRule, BudgetTooLarge, ShortPlan}
use Rattle.rules.specs.declared.row.Kind.{Kind}
use Rattle.rules.specs.declared.row.Row.{Row}
use Rattle.rules.specs.declared.rule.Rule.{Rule}
use Rattle.account.specs.Accounts.{Account, Exclusion, Best}
use Rattle.account.specs.Changes.{held, added, withdrawn}
use Rattle.account.specs.Steps.{advance, one_if_open, is_free, is_value}
use Rattle.account.specs.declared.state.State.{State}

-- a call, with its arguments; best takes what its buffer holds
pub data Call : Type 0 where
  add : Rule → Call
  withdraw : Kind → ℕ → Call
  rank : ℕ → ℕ → Call
  run : ℕ → Call
  best : List ℕ → Call
  exclusion : ℕ → ℕ → Call
  unexcluded : ℕ → Call

-- an answer; reported has the state, the cost if a best is held, and what the buffer then holds
pub data Answer (C : Type 0) : Type 0 where
  refused : Refusal → Answer C
  done : Answer C
  ran : ℕ → State → Answer C
  reported : State → Option C → List ℕ → Answer C
  excluded : Option Exclusion → Answer C
  counted : ℕ → Answer C

-- on which ground the adding of a row is refused
abbrev pub add_refusal : {C : Type 0} → Account C → Row → Option Refusal
add_refusal a r = option_or (row_refusal a.book.decisions r) (when (nat_le 256 (length (held a.book r.kind))) TableFull)

-- on which ground a call is refused
abbrev pub refusal : {C : Type 0} → Account C → Call → Option Refusal
refusal a (add r) = add_refusal a r.row
refusal a (withdraw k place) = when (nat_le (length (held a.book k)) place) NoSuchRule
refusal a (rank d n) = when (nat_le (length a.book.decisions) d) UnknownDecision
refusal a (run budget) = when (nat_lt 1000000 budget) BudgetTooLarge
refusal a (best buffer) = when (nat_lt (length buffer) (length a.book.decisions)) ShortPlan
refusal a (exclusion d v) =
    option_or (when (nat_le (length a.book.decisions) d) UnknownDecision) (when (not (is_value (size_at a.book.decisions d) v)) UnknownValue)
refusal a (unexcluded d) = when (nat_le (length a.book.decisions) d) UnknownDecision

-- how many steps a run of this budget makes
abbrev pub made : {C : Type 0} → Meaning C → ℕ → Account C → ℕ
made m zero a = 0
made m (suc n) a = made m n a + one_if_open (advance m n a).state

-- a buffer with a plan's values for n decisions in front
abbrev pub written : ℕ → Plan → List ℕ → List ℕ
written n p buffer = map p (range_with_len 0 n) ++ drop n buffer

abbrev pub report : {C : Type 0} → State → ℕ → List ℕ → Option (Best C) → Answer C
report s n buffer None = reported s None buffer
report s n buffer (Some b) = reported s (Some b.cost) (written n b.plan buffer)

-- how many of the values 1 to n have no exclusion
abbrev pub count_free : (ℕ → Option Exclusion) → ℕ → ℕ
count_free ex zero = 0
count_free ex (suc n) = count_free ex n + cond (is_free (ex (suc n))) 1 0

-- what an accepted call answers
abbrev pub accepted : {C : Type 0} → Meaning C → Account C → Call → Answer C
accepted m a (add r) = done
accepted m a (withdraw k place) = done
accepted m a (rank d n) = done
accepted m a (run budget) = ran (made m budget a) (advance m budget a).state
accepted m a (best buffer) = report a.state (length a.book.decisions) buffer a.best
accepted m a (exclusion d v) = excluded (a.exclusions d v)
accepted m a (unexcluded d) = counted (count_free (a.exclusions d) (size_at a.book.decisions d))

-- what an accepted call leaves
abbrev pub leaves : {C : Type 0} → Meaning C → Account C → Call → Account C
leaves m a (add r) = added m a r.row.kind r.row
leaves m a (withdraw k place) = withdrawn m a k place
leaves m a (rank d n) =
    record {
      book = a.book;
      ranks = λ x. cond (x == d) n (a.ranks x);
      trail = a.trail;
      exclusions = a.exclusions;
      best = a.best;
      state = a.state;
    }
leaves m a (run budget) = advance m budget a
leaves m a (best buffer) = a
leaves m a (exclusion d v) = a
leaves m a (unexcluded d) = a

abbrev pub answer_if : {C : Type 0} → Meaning C → Account C → Call → Option Refusal → Answer C
answer_if m a c (Some e) = refused e
answer_if m a c None = accepted m a c

abbrev pub after_if : {C : Type 0} → Meaning C → Account C → Call → Option Refusal → Account C
after_if m a c (Some e) = a
after_if m a c None = leaves m a c

-- what a call answers
abbrev pub answer : {C : Type 0} → Meaning C → Account C → Call → Answer C
answer m a c = answer_if m a c (refusal a c)

-- the account after a call; a refused one leaves it alone
abbrev pub after : {C : Type 0} → Meaning C → Account C → Call → Account C
after m a c = after_if m a c (refusal a c)

-- the account after a list of calls
abbrev pub history : {C : Type 0} → Meaning C → Account C → List Call → Account C
history m a [] = a
history m a (c ∷ cs) = history m (after m a c) cs

-- a call that changes the rules
abbrev pub is_change : Call → Bool
is_change (add r) = true
is_change (withdraw k place) = true
is_change (rank d n) = false
is_change (run budget) = false
is_change (best buffer) = false
is_change (exclusion d v) = false
is_change (unexcluded d) = false

-- the answer of an accepted add, withdraw or rank
abbrev pub is_done : {C : Type 0} → Answer C → Bool
is_done (refused e) = false
is_done done = true
is_done (ran k s) = false
is_done (reported s c b) = false
is_done (excluded e) = false
is_done (counted k) = false

-- the steps that a run answered
abbrev pub steps_of : {C : Type 0} → Answer C → ℕ
steps_of (refused e) = 0
steps_of done = 0
steps_of (ran k s) = k
steps_of (reported s c b) = 0
steps_of (excluded e) = 0
steps_of (counted k) = 0

-- the steps counted so far, after one more call and its answer: an accepted change of rules starts anew, a run adds its steps
abbrev pub tally : {C : Type 0} → ℕ → Call → Answer C → ℕ
tally n c o = cond (is_change c && is_done o) 0 (n + steps_of o)

-- the steps that accepted runs answered since the latest accepted add or withdraw
abbrev pub steps_since : {C : Type 0} → Meaning C → ℕ → Account C → List Call → ℕ
steps_since m n a [] = n
steps_since m n a (c ∷ cs) = steps_since m (tally n c (answer m a c)) (after m a c) cs
