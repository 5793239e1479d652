-- No bit means no decision.
use Rattle.sets.proofs.Decisions.{members_empty}
use Rattle.sets.proofs.decision_set.DecisionSet.empty.Goals as goal

pub returns : goal.returns
returns c = members_empty
