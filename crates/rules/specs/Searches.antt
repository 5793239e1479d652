-- What the loops of judging find, by outcome.
use Rattle.std.specs.Prelude.{◌≡◌, ℕ, ◌<◌, Bool, true, false, cond, List, length, Some, None, Ok, Err, Option, Result, ◌==◌, nat_lt}
use Rattle.rules.specs.Conditions.{Plan, from_bytes}
use Rattle.rules.specs.Plans.{Set, on_at, rounds, size_at}
use Rattle.rules.specs.Refusals.{when}
use Rattle.rules.specs.declared.decision.Decision.{Decision}
use Rattle.rules.specs.declared.row.Row.{Row}
use Rattle.rules.specs.declared.verdict.Breach.{Breach}
use Rattle.rules.specs.declared.verdict.Breach.TheVariants.{NotActive, NotChosen, OutOfRange}

-- how a plan mistreats a decision of this size, by whether it is active and by its value
abbrev pub misfit : ℕ → ℕ → Bool → ℕ → Option Breach
misfit d size true v = cond (v == 0) (Some (NotChosen d)) (when (nat_lt size v) (OutOfRange d))
misfit d size false v = when (nat_lt 0 v) (NotActive d)

abbrev pub misfit_at : List Decision → Set → Plan → ℕ → Option Breach
misfit_at ds s p d = misfit d (size_at ds d) (s d) (p d)

-- that a plan mistreats none of n decisions, else how it mistreats the first
abbrev pub FirstMisfit : List Decision → Set → Plan → ℕ → Result (Unit {0}) Breach → Type 0
FirstMisfit ds s p n (Ok u) = (d : ℕ) → d < n → misfit_at ds s p d ≡ None
FirstMisfit ds s p n (Err x) = (d : ℕ) × (d < n) × ((e : ℕ) → e < d → misfit_at ds s p e ≡ None) × (misfit_at ds s p d ≡ Some x)

-- that a plan chooses exactly what is active after as many rounds over these rows as there are decisions, each in its range, else how it mistreats the first
abbrev pub Chooses : List Decision → List Row → List ℕ → Result (Unit {0}) Breach → Type 0
Chooses ds rs bytes r = FirstMisfit ds (rounds (length ds) rs (from_bytes bytes) (on_at ds)) (from_bytes bytes) (length ds) r
