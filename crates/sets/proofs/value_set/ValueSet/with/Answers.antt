-- One more bit is one more value.
use Rattle.std.proofs.Common.{sym}
use Rattle.sets.proofs.Values.{value_range, values_with}
use Rattle.sets.proofs.value_set.ValueSet.with.Goals as goal

pub returns-then-is_value : goal.returns-then-is_value
returns-then-is_value c = let (low, high) = value_range c.args.v (sym c.if-is_value.ensures) in values_with c.args.self c.args.v low high
