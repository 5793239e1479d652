use Rattle.std.proofs.Common.{None, ◌∙◌}
use Rattle.statements.proofs.Shapes.{paired_is}
use Rattle.statements.proofs.forms.pair_of.Goals as goal

pub returns-in_err-decision : goal.returns-in_err-decision
returns-in_err-decision c = c.from_residual.ensures ∙ paired_is c.args.field.now None c.in_err-decision.ensures
