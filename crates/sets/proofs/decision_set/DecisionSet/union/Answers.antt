-- The bits of either set are the decisions of either.
use Rattle.sets.proofs.Decisions.{members_union}
use Rattle.sets.proofs.decision_set.DecisionSet.union.Goals as goal

pub returns : goal.returns
returns c = members_union c.args.self c.args.other
