use Rattle.std.proofs.lemmas.Grind.{common_steps}
use Rattle.std.proofs.Common.{arith}
use Rattle.tables.proofs.Frees.{count_free_lem, free_at, whole_size}
use Rattle.tables.proofs.exclusions.Exclusions.count_free.Goals as goal

pub returns : goal.returns
returns c = grind (arith, common_steps, whole_size, count_free_lem, free_at)
