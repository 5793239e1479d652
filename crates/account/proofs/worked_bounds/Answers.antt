use Rattle.account.proofs.Bounds.{bounds_shown}
use Rattle.account.proofs.worked_bounds.Goals as goal

pub returns : goal.returns
returns c = bounds_shown c.planning_law.ensures
