use Rattle.std.proofs.Common.{arith}
use Rattle.std.proofs.lemmas.Grind.{common_steps}
use Rattle.scans.proofs.forbids.first_met.Goals as goal

pub returns-after-pairs : goal.returns-after-pairs
returns-after-pairs c = grind (arith, common_steps)
