-- No bit means no value.
use Rattle.sets.proofs.Values.{values_empty}
use Rattle.sets.proofs.value_set.ValueSet.empty.Goals as goal

pub returns : goal.returns
returns c = values_empty
