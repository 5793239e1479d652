-- The tested bit is the value's own, and outside 1 to 16 there is none.
use Rattle.std.proofs.Common.{sym, ◌∙◌}
use Rattle.sets.proofs.Values.{no_value, value_range, value_test}
use Rattle.sets.proofs.value_set.ValueSet.has.Goals as goal

pub returns-then-is_value : goal.returns-then-is_value
returns-then-is_value c = let (low, high) = value_range c.args.v (sym c.if-is_value.ensures) in value_test c.args.self c.args.v low high

pub returns-else-is_value : goal.returns-else-is_value
returns-else-is_value c = c.if-is_value.false ∙ sym (no_value c.args.self c.args.v (sym c.if-is_value.ensures))
