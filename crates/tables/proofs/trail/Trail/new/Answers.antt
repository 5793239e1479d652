use Rattle.std.proofs.Common.{refl}
use Rattle.tables.proofs.Entering.{zeros}
use Rattle.tables.proofs.trail.Trail.new.Goals as goal

pub invariant_of-result : goal.invariant_of-result
invariant_of-result c = rw c.new.ensures (record { distinct = refl; planned = zeros })
