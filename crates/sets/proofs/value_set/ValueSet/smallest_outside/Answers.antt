-- The first bit of the complement is the smallest value outside.
use Rattle.std.proofs.Common.{ap, ◌∙◌, arith}
use Rattle.sets.specs.Members.{values}
use Rattle.sets.specs.Searches.{smallest_outside}
use Rattle.sets.proofs.Values.{smallest_by_first}
use Rattle.sets.proofs.value_set.ValueSet.smallest_outside.Goals as goal

pub returns : goal.returns
returns c = c.then_some.ensures ∙ smallest_by_first c.args.self c.min.result (omega arith) (omega arith) ∙ ap (smallest_outside (values c.args.self)) c.min.ensures
