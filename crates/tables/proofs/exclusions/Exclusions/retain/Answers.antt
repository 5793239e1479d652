use Rattle.std.proofs.Common.{ap, ◌∙◌, arith}
use Rattle.sets.specs.Members.{members}
use Rattle.tables.specs.Excluded.{exclusions_of, spared}
use Rattle.tables.specs.declared.exclusions.Exclusions.{Exclusions}
use Rattle.tables.proofs.Sparing.{spared_at, spared_none, through_all, through_more}
use Rattle.tables.proofs.exclusions.Exclusions.retain.Goals as goal
use Rattle.tables.proofs.exclusions.Exclusions.retain.Goals.{then-self-at-ne0, else-self-at-ne0}

pub loop-d-preserved : goal.loop-d-preserved
loop-d-preserved c =
    let keep = spared (members c.args.sparing.barred) c.args.sparing.resting in
    let x = c.loop-d.self in
    let d = c.loop-d.d in
    through_more keep (exclusions_of c.args.self.now) (exclusions_of x) (exclusions_of c.if-self-at-ne0.self) d c.loop-d.invariant
    (elim c.if-self-at-ne0.branch [
      | then-self-at-ne0 w ↦ (λ y v. ap (λ (z : Exclusions). exclusions_of z y v) w.self-is ∙ spared_at keep x d w.spared_values.result c.loop-d-test.true (omega arith) w.spared_values.ensures y v)
      | else-self-at-ne0 w ↦ (λ y v. ap (λ (z : Exclusions). exclusions_of z y v) w.self-is ∙ spared_none keep x d w.if-self-at-ne0.false y v)
    ])

pub returns : goal.returns
returns c = through_all (spared (members c.args.sparing.barred) c.args.sparing.resting) c.args.self.now (exclusions_of c.loop-d.self) c.loop-d.d c.loop-d-test.false c.loop-d.invariant
