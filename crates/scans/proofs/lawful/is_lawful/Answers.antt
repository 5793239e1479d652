use Rattle.std.proofs.Common.{true, false, ◌∙◌}
use Rattle.scans.proofs.Fits.{lawful_by}
use Rattle.scans.proofs.lawful.is_lawful.Goals as goal

pub returns-then-is_ok : goal.returns-then-is_ok
returns-then-is_ok c prices =
    c.meets_none.ensures
    ∙ lawful_by c.args.decisions.now c.args.forbids.now c.args.activates.now prices c.args.plan.now c.requires.few c.requires.short c.check_choices.result true c.if-is_ok.ensures.value c.check_choices.ensures

pub returns-else-is_ok : goal.returns-else-is_ok
returns-else-is_ok c prices =
    c.if-is_ok.false
    ∙ lawful_by c.args.decisions.now c.args.forbids.now c.args.activates.now prices c.args.plan.now c.requires.few c.requires.short c.check_choices.result false c.if-is_ok.ensures.value c.check_choices.ensures
