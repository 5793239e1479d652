use Rattle.rules.proofs.WorkedOut.{worked_out}
use Rattle.rules.proofs.judging.answers_are_worked_out.Goals as goal

pub returns : goal.returns
returns g c = worked_out g.M.Measure.meaning
