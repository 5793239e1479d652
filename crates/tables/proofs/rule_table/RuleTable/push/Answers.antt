use Rattle.std.proofs.Common.{◌<◌, take, ap, ◌∙◌, arith}
use Rattle.std.proofs.lemmas.List.{length-take, take_more_set}
use Rattle.tables.specs.Shapes.{all_shaped}
use Rattle.tables.proofs.RowEdits.{shaped_push}
use Rattle.tables.proofs.rule_table.RuleTable.push.Goals as goal

pub invariant_of-self : goal.invariant_of-self
invariant_of-self c =
    let t = c.args.self.now in
    let room : t.count < 256 = omega (arith, length-take t.count t.rows, c.requires) in
    let after = take_more_set t.rows t.count c.args.shaped.row (omega arith) in
    record {
      few = omega arith;
      shapes = ap all_shaped after ∙ shaped_push (take t.count t.rows) c.args.shaped.row t.shapes c.args.shaped.shape;
    }

pub returns : goal.returns
returns c =
    let t = c.args.self.now in
    take_more_set t.rows t.count c.args.shaped.row (omega (arith, length-take t.count t.rows, c.requires))
