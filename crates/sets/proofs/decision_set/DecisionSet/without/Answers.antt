-- One bit removed is one decision removed, and from 64 on there is none to remove.
use Rattle.sets.proofs.Decisions.{members_without, members_without_none}
use Rattle.sets.proofs.decision_set.DecisionSet.without.Goals as goal

pub returns-then-d-lt64 : goal.returns-then-d-lt64
returns-then-d-lt64 c = members_without c.args.self c.args.d c.if-d-lt64.true

pub returns-else-d-lt64 : goal.returns-else-d-lt64
returns-else-d-lt64 c = members_without_none c.args.self c.args.d c.if-d-lt64.false
