use Rattle.std.proofs.Common.{refl}
use Rattle.tables.proofs.Entering.{zeros}
use Rattle.tables.proofs.trail.Trail.clear.Goals as goal

pub invariant_of-self : goal.invariant_of-self
invariant_of-self c = rw c.clear.ensures (record { distinct = refl; planned = zeros })
