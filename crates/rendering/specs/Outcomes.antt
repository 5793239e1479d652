-- The text of an outcome that is told as state and best.
use Rattle.std.specs.Prelude.{ℕ, List, [], Some, None, Option}
use Rattle.account.specs.declared.state.State.{State}
use Rattle.rendering.specs.Texts.{outcome_text}
use Rattle.rendering.specs.declared.outcome.Best.{Best}
use Rattle.rendering.specs.declared.outcome.Outcome.{Outcome}

-- by the best's cost and plan, if one is held
abbrev pub told_best : State → Option Best → List ℕ
told_best s None = outcome_text s None []
told_best s (Some b) = outcome_text s (Some b.cost) b.plan.now

-- the text of an outcome
abbrev pub told : Outcome → List ℕ
told o = told_best o.state o.best
