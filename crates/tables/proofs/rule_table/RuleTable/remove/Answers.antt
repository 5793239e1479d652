use Rattle.std.proofs.Common.{take, ap, ◌∙◌, arith}
use Rattle.std.proofs.lemmas.List.{length-take}
use Rattle.tables.specs.Shapes.{all_shaped}
use Rattle.tables.proofs.RowEdits.{closed_gap, shaped_removed}
use Rattle.tables.proofs.rule_table.RuleTable.remove.Goals as goal

pub invariant_of-self : goal.invariant_of-self
invariant_of-self c =
    let t = c.args.self.now in
    let i = c.args.place in
    let after =
    closed_gap t.rows c.copy_within.new.self t.count i (omega arith) (omega (arith, length-take t.count t.rows, c.requires))
    c.copy_within.ensures.after
    in
    record { few = omega arith; shapes = ap all_shaped after ∙ shaped_removed (take t.count t.rows) i t.shapes }

pub returns : goal.returns
returns c =
    let t = c.args.self.now in
    closed_gap t.rows c.copy_within.new.self t.count c.args.place (omega arith) (omega (arith, length-take t.count t.rows, c.requires))
    c.copy_within.ensures.after
