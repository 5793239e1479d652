-- The text of what a planner has come to, and of a whole plan of a book.
use Rattle.std.specs.Prelude.{ℕ, List, [], map, length, replicate, Some, None, Ok, Err, Option, Result}
use Rattle.std.specs.List.{range_with_len}
use Rattle.measure.specs.Meaning.{Meaning}
use Rattle.measure.specs.declared.cents.Cents.{Cents}
use Rattle.measure.specs.declared.pair.Pair.{Pair}
use Rattle.measure.specs.declared.tier.Tier.{Tier}
use Rattle.account.specs.Accounts.{Account, Best, fresh}
use Rattle.account.specs.Calls.{history, run}
use Rattle.account.specs.declared.state.State.{State}
use Rattle.rendering.specs.Texts.{fault_text, outcome_text}
use Rattle.statements.specs.declared.fault.Fault.{Fault}
use Rattle.book.specs.Loads.{loaded}

-- the text of an outcome, by the state, the number of decisions and the best
abbrev pub outcome_of : State → ℕ → Option (Best (Pair Tier Cents)) → List ℕ
outcome_of s n None = outcome_text s None []
outcome_of s n (Some b) = outcome_text s (Some b.cost) (map b.plan (range_with_len 0 n))

-- the text of a planner's outcome
abbrev pub account_text : Account (Pair Tier Cents) → List ℕ
account_text a = outcome_of a.state (length a.book.decisions) a.best

-- the account after so many runs of so many steps each
unfoldable pub after_runs : {C : Type 0} → Meaning C → ℕ → ℕ → Account C → Account C
after_runs m runs steps a = history m a (replicate runs (run steps))

-- the text of a load's result: the fault's, or after a hundred runs of a hundred thousand steps the outcome's
abbrev pub planned_text : Meaning (Pair Tier Cents) → Result (Account (Pair Tier Cents)) Fault → List ℕ
planned_text m (Ok a) = account_text (after_runs m 100 100000 a)
planned_text m (Err f) = fault_text f.refusal f.line f.column

-- the account after planning a book: a refused one leaves a planner over no decisions
abbrev pub planned_by : Meaning (Pair Tier Cents) → Result (Account (Pair Tier Cents)) Fault → Account (Pair Tier Cents)
planned_by m (Ok a) = after_runs m 100 100000 a
planned_by m (Err f) = fresh []

-- the text that planning a book gives
abbrev pub plan_text : Meaning (Pair Tier Cents) → List ℕ → List ℕ
plan_text m text = planned_text m (loaded m text)
