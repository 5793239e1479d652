use Rattle.std.proofs.Common.{◌≡◌, not, ◌&&◌, ltb}
use Rattle.account.specs.Changes.{keep_if}
use Rattle.account.specs.Steps.{is_free}
use Rattle.sets.specs.Members.{members, values}
use Rattle.tables.specs.Excluded.{exclusions_of, spared}
use Rattle.tables.proofs.exclusions.Exclusions.spared_values.Given as goal

abbrev pub invariant-loop-v : goal.invariant-loop-v
invariant-loop-v l = values l.stays ≡ (λ x. ltb x l.v && not (is_free (keep_if (spared (members l.sparing.barred) l.sparing.resting) (exclusions_of l.self l.d x))))
