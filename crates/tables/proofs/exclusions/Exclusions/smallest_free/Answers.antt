use Rattle.std.proofs.lemmas.Grind.{common_steps}
use Rattle.std.proofs.Common.{arith}
use Rattle.tables.proofs.Frees.{free_at, smallest_free_lem, whole_size}
use Rattle.tables.proofs.exclusions.Exclusions.smallest_free.Goals as goal

pub returns : goal.returns
returns c = grind (arith, common_steps, whole_size, smallest_free_lem, free_at)
