-- No bit means no decision, and no decision no bit.
use Rattle.std.proofs.Common.{arith}
use Rattle.sets.proofs.Decisions.{no_members}
use Rattle.sets.proofs.decision_set.DecisionSet.is_empty.Goals as goal

pub returns : goal.returns
returns c = no_members c.args.self (omega arith)
