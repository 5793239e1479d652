use Rattle.std.proofs.Common.{ℕ, get_or, set, ap, ◌∙◌, arith}
use Rattle.tables.specs.Excluded.{exclusions_of, no_value}
use Rattle.tables.proofs.Cells.{put_is}
use Rattle.tables.proofs.Marks.{marked_in}
use Rattle.tables.proofs.exclusions.Exclusions.put.Goals as goal

pub returns : goal.returns
returns c =
    let x = c.args.self.now in
    let d = c.args.choice.decision in
    let v = c.args.choice.value in
    ap (λ (k : ℕ). exclusions_of (record { excluded = set x.excluded d c.with.result; resting = set x.resting d c.marked.result; reasons = set x.reasons k c.args.reason.bits })) c.cell.ensures.value
    ∙ put_is x d v c.with.result c.marked.result c.args.reason.bits c.args.rests c.args.choice.known c.args.choice.some c.args.choice.few (omega arith) (omega arith) (omega arith)
    (marked_in (get_or x.excluded d no_value) c.with.result v c.args.choice.some c.args.choice.few c.with.ensures) c.marked.ensures
