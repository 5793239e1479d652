-- One more bit is one more decision.
use Rattle.sets.proofs.Decisions.{members_with}
use Rattle.sets.proofs.decision_set.DecisionSet.with.Goals as goal

pub returns-then-d-lt64 : goal.returns-then-d-lt64
returns-then-d-lt64 c = members_with c.args.self c.args.d c.if-d-lt64.true
