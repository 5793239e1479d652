-- The ones of the complement, up to the size, are the values outside.
use Rattle.std.proofs.lemmas.Grind.{common_steps}
use Rattle.std.proofs.Common.{arith}
use Rattle.sets.proofs.Values.{count_by_ones}
use Rattle.sets.proofs.value_set.ValueSet.count_outside.Goals as goal

pub returns : goal.returns
returns c = grind (arith, common_steps, count_by_ones)
