use Rattle.std.proofs.Common.{refl}
use Rattle.tables.proofs.Cells.{none_excluded}
use Rattle.tables.proofs.exclusions.Exclusions.new.Goals as goal

pub returns : goal.returns
returns c = none_excluded _ c.empty.result refl c.empty.ensures
