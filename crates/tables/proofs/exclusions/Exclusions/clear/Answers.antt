use Rattle.std.proofs.Common.{refl}
use Rattle.tables.proofs.Cells.{none_excluded}
use Rattle.tables.proofs.exclusions.Exclusions.clear.Goals as goal

pub returns : goal.returns
returns c = none_excluded _ c.empty-self.result refl c.empty-self.ensures
