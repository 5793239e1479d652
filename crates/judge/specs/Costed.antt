-- What is said of a plan's cost, by the verdict on the plan.
use Rattle.std.specs.Prelude.{ℕ, List, Ok, Err, Result}
use Rattle.measure.specs.Meaning.{Meaning}
use Rattle.rules.specs.Judging.{Answered}
use Rattle.rules.specs.declared.decision.Decision.{Decision}
use Rattle.rules.specs.declared.row.Row.{Row}
use Rattle.judge.specs.declared.costs.Fault.{Fault}
use Rattle.judge.specs.declared.costs.Fault.TheVariants.{Unlawful, Refused}

-- a lawful plan has its cost; another has none, because it breaks a law or its judging is refused
abbrev pub Costed : {C : Type 0} → Meaning C → List Decision → List Row → List ℕ → Result C Fault → Type 0
Costed m ds rs bytes (Ok c) = Answered m ds rs bytes (Ok (Ok c))
Costed m ds rs bytes (Err (Unlawful b)) = Answered m ds rs bytes (Ok (Err b))
Costed m ds rs bytes (Err (Refused e)) = Answered m ds rs bytes (Err e)
