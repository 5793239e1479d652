-- A bit in both means a decision in both, and the other way round.
use Rattle.std.proofs.Common.{arith}
use Rattle.sets.proofs.Decisions.{common_member}
use Rattle.sets.proofs.decision_set.DecisionSet.meets.Goals as goal

pub returns : goal.returns
returns c = common_member c.args.self c.args.other (omega arith)
