use Rattle.account.proofs.Following.{consequences}
use Rattle.account.proofs.planning_consequences.Goals as goal

pub returns : goal.returns
returns g c = consequences g.M.Measure.meaning c.planning_law.ensures
