use Rattle.sets.specs.Members.{members}
use Rattle.tables.specs.Excluded.{exclusions_of, spared}
use Rattle.tables.proofs.Sparing.{Through}
use Rattle.tables.proofs.exclusions.Exclusions.retain.Given as goal

abbrev pub invariant-loop-d : goal.invariant-loop-d
invariant-loop-d l = Through (spared (members l.sparing.barred) l.sparing.resting) (exclusions_of l.initial.self) (exclusions_of l.self) l.d
