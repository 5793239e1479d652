use Rattle.std.proofs.Common.{arith}
use Rattle.std.proofs.lemmas.Grind.{common_steps}
use Rattle.tables.proofs.Sparing.{filled_all, filled_none, stays, stays_past, stays_zero}
use Rattle.tables.proofs.exclusions.Exclusions.spared_values.Goals as goal

pub loop-v-init : goal.loop-v-init
loop-v-init c = grind (arith, common_steps, filled_none, stays, stays_zero)

pub returns : goal.returns
returns c = grind (arith, common_steps, filled_all, stays, stays_past)
