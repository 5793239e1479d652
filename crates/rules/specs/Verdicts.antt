-- What judge answers, worked out.
use Rattle.std.specs.Prelude.{◌≡◌, ℕ, zero, suc, ◌↔◌, List, length, Some, None, Ok, Err, position, Option, Result}
use Rattle.std.specs.Option.{option_map, option_or}
use Rattle.measure.specs.Meaning.{Meaning}
use Rattle.rules.specs.Conditions.{Plan, plan_of, met}
use Rattle.rules.specs.Judging.{Answered, book_of, judge_refusal}
use Rattle.rules.specs.Plans.{Book, active, cost}
use Rattle.rules.specs.Searches.{misfit_at}
use Rattle.rules.specs.declared.decision.Decision.{Decision}
use Rattle.rules.specs.declared.refusal.Refusal.{Refusal}
use Rattle.rules.specs.declared.row.Row.{Row}
use Rattle.rules.specs.declared.verdict.Breach.{Breach}
use Rattle.rules.specs.declared.verdict.Breach.TheVariants.{Forbidden}

-- the first answer that a function gives below n
abbrev pub first_below : {X : Type 0} → (ℕ → Option X) → ℕ → Option X
first_below f zero = None
first_below f (suc n) = option_or (first_below f n) (f n)

-- the first law that a plan breaks: how it mistreats a decision, else the forbid rule that it meets
abbrev pub breach_of : Book → Plan → Option Breach
breach_of b p = option_or (first_below (misfit_at b.decisions (active b p) p) (length b.decisions)) (option_map Forbidden (position (met p) b.forbids))

-- an error if there is one, else a value
abbrev pub error_or : {X E : Type 0} → Option E → X → Result X E
error_or (Some e) x = Err e
error_or None x = Ok x

-- a refusal, else the first breach, else the cost
abbrev pub answer_of : {C : Type 0} → Meaning C → List Decision → List Row → List ℕ → Result (Result C Breach) Refusal
answer_of m ds rs bytes =
    let b = book_of ds rs in
    let p = plan_of (length ds) bytes in
    error_or (judge_refusal ds rs bytes) (error_or (breach_of b p) (cost m b.prices p))

-- that is the one answer that holds of decisions, rows and bytes
abbrev pub WorkedOut : {C : Type 0} → Meaning C → Type 0
WorkedOut {C} m = (ds : List Decision) (rs : List Row) (bytes : List ℕ) (v : Result (Result C Breach) Refusal) → Answered m ds rs bytes v ↔ (v ≡ answer_of m ds rs bytes)
