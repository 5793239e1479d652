-- One bit removed is one value removed, and outside 1 to 16 there is none to remove.
use Rattle.std.proofs.Common.{sym}
use Rattle.sets.proofs.Values.{no_value, value_range, values_without, values_without_none}
use Rattle.sets.proofs.value_set.ValueSet.without.Goals as goal

pub returns-then-is_value : goal.returns-then-is_value
returns-then-is_value c = let (low, high) = value_range c.args.v (sym c.if-is_value.ensures) in values_without c.args.self c.args.v low high

pub returns-else-is_value : goal.returns-else-is_value
returns-else-is_value c = values_without_none c.args.self c.args.v (no_value c.args.self c.args.v (sym c.if-is_value.ensures))
