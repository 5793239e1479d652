-- What the result of each call says, as an answer of the account.
use Rattle.std.specs.Prelude.{ℕ, Bool, List, Ok, Err, Option, Result}
use Rattle.account.specs.Calls.{Answer, refused, done, ran, reported, excluded, counted}
use Rattle.account.specs.declared.state.State.{State}
use Rattle.rules.specs.declared.refusal.Refusal.{Refusal}
use Rattle.sets.specs.declared.decision_set.DecisionSet.{DecisionSet}
use Rattle.tables.specs.Excluded.{as_exclusion}

-- add, withdraw and rank
abbrev pub says_done : {C : Type 0} → Result (Unit {0}) Refusal → Answer C
says_done (Ok u) = done
says_done (Err e) = refused e

-- run: the steps made, and the state
abbrev pub says_ran : {C : Type 0} → Result (ℕ × State) Refusal → Answer C
says_ran (Ok r) = ran r.0 r.1
says_ran (Err e) = refused e

-- best: the state, the cost if a best is held, and what the buffer then holds
abbrev pub says_best : {C : Type 0} → Result (State × Option C) Refusal → List ℕ → Answer C
says_best (Ok r) buffer = reported r.0 r.1 buffer
says_best (Err e) buffer = refused e

-- exclusion: the reason with its resting mark, or none
abbrev pub says_excluded : {C : Type 0} → Result (Option (DecisionSet × Bool)) Refusal → Answer C
says_excluded (Ok o) = excluded (as_exclusion o)
says_excluded (Err e) = refused e

-- how many values are not excluded
abbrev pub says_counted : {C : Type 0} → Result ℕ Refusal → Answer C
says_counted (Ok n) = counted n
says_counted (Err e) = refused e
