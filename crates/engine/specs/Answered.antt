-- What a book of bytes comes to: a planner loaded, run and asked for its best, or the first fault.
use Rattle.std.specs.Prelude.{ℕ, Bool, true, false, List, [], ◌∷◌, length, is_some, Some, None, Ok, Err, Option, Result}
use Rattle.std.specs.Option.{ok_or, option_map_or, option_or}
use Rattle.measure.specs.Meaning.{Meaning}
use Rattle.measure.specs.Supplied.{cents}
use Rattle.measure.specs.declared.cents.Cents.{Cents}
use Rattle.rules.specs.Compose.{compose_refusal, composed}
use Rattle.rules.specs.Conditions.{condition}
use Rattle.rules.specs.Judging.{open_refusal}
use Rattle.rules.specs.Refusals.{number_of}
use Rattle.rules.specs.declared.refusal.Refusal.{Refusal}
use Rattle.rules.specs.declared.row.Row.{Row}
use Rattle.account.specs.Accounts.{Account, fresh}
use Rattle.account.specs.Calls.{add_refusal, after, best, made, refusal, run, written}
use Rattle.account.specs.Changes.{added}
use Rattle.account.specs.declared.state.State.{State}
use Rattle.account.specs.declared.state.State.TheVariants.{Open, Settled}
use Rattle.engine.specs.Stated.{decisions_in, layout_in, row_in}
use Rattle.engine.specs.declared.fault.Fault.{Fault}
use Rattle.engine.specs.declared.fault.Fault.TheVariants.{Malformed, Refused}
use Rattle.engine.specs.declared.outcome.Outcome.{Outcome}

-- what a run comes to: its outcome, and what the buffer of the plan then holds
pub record Planned : Type 0 where
  pub outcome : Outcome
  pub plan : List ℕ

-- the number of a fault
abbrev pub fault_number : Fault → ℕ
fault_number Malformed = 255
fault_number (Refused r) = number_of r

-- a result, and what follows from it
abbrev pub then : {X Y E : Type 0} → Result X E → (X → Result Y E) → Result Y E
then (Ok x) f = f x
then (Err e) f = Err e

-- a result, refusal_or a call is refused before it
abbrev pub refusal_or : {X : Type 0} → Option Refusal → Result X Fault → Result X Fault
refusal_or (Some e) r = Err (Refused e)
refusal_or None r = r

-- a result, its value seen through a function
abbrev pub on_ok : {X Y E : Type 0} → (X → Y) → Result X E → Result Y E
on_ok f (Ok x) = Ok (f x)
on_ok f (Err e) = Err e

-- a planner opened over the decisions that bytes state
abbrev pub opened : {C : Type 0} → List (List ℕ) → Result (Account C) Fault
opened pairs = then (ok_or (decisions_in pairs) Malformed) (λ ds. refusal_or (open_refusal ds) (Ok (fresh ds)))

module _ {C : Type 0} (m : Meaning C) where
  -- an account after the rule of a row: composed, then added
  abbrev pub with_rule : Account C → Row → Result (Account C) Fault
  with_rule a r =
      let row = composed r.kind (condition r) r.target r.price in
      refusal_or (option_or (compose_refusal r.kind (condition r) r.price) (add_refusal a row)) (Ok (added m a r.kind row))

  -- an account after the rule that a record states
  abbrev pub read_record : Account C → List ℕ → Result (Account C) Fault
  read_record a bytes = then (ok_or (row_in bytes) Malformed) (with_rule a)

  -- an account after the rules of records, one after the other up to the first fault
  unfoldable pub read_records : Account C → List (List ℕ) → Result (Account C) Fault
  read_records a [] = Ok a
  read_records a (r ∷ rs) = then (read_record a r) (λ b. read_records b rs)

  -- the account that a book of bytes makes, or its first fault
  abbrev pub loaded : List ℕ → Result (Account C) Fault
  loaded bytes = then (ok_or (layout_in bytes) Malformed) (λ p. then (opened p.decisions) (λ a. read_records a p.records))

-- whether a state is settled
abbrev pub is_settled : State → Bool
is_settled Open = false
is_settled Settled = true

-- the outcome of so many steps that led to an account: the cost of its best, or 0 if none is held
abbrev pub outcome_of : ℕ → Account Cents → Outcome
outcome_of steps a = record { cost = option_map_or (λ b. b.cost.sum) a.best 0; steps = steps; settled = is_settled a.state; held = is_some a.best }

-- a buffer with the plan of the best in front, if one is held
abbrev pub told : Account Cents → List ℕ → List ℕ
told a buffer = option_map_or (λ b. written (length a.book.decisions) b.plan buffer) a.best buffer

-- a run over an account, and its best then told in a buffer; or why the run is refused, else the best
abbrev pub planned : Account Cents → ℕ → List ℕ → Result Planned Fault
planned a budget buffer =
    let b = after cents a (run budget) in
    refusal_or (option_or (refusal a (run budget)) (refusal b (best buffer))) (Ok (record { outcome = outcome_of (made cents budget a) b; plan = told b buffer }))

-- what a book of bytes comes to, or its first fault
abbrev pub answered : List ℕ → ℕ → List ℕ → Result Planned Fault
answered book budget buffer = then (loaded cents book) (λ a. planned a budget buffer)

-- the number that is answered: 0, or the fault's
abbrev pub number : {X : Type 0} → Result X Fault → ℕ
number (Ok x) = 0
number (Err f) = fault_number f

-- what a call leaves of a value: what it comes to, or the old if there is a fault
abbrev pub left_or : {X Y : Type 0} → Y → (X → Y) → Result X Fault → Y
left_or old f (Ok x) = f x
left_or old f (Err e) = old
