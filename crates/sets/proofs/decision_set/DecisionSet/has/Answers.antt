-- The tested bit is the decision's own, and from 64 on there is none.
use Rattle.std.proofs.Common.{sym, ◌∙◌}
use Rattle.std.proofs.lemmas.Bool.{le-ltb}
use Rattle.sets.proofs.BitLaws.{bit_test}
use Rattle.sets.proofs.Decisions.{member_bit, no_member}
use Rattle.sets.proofs.decision_set.DecisionSet.has.Goals as goal

pub returns-then-d-lt64 : goal.returns-then-d-lt64
returns-then-d-lt64 c = bit_test c.args.self.bits c.args.d ∙ sym (member_bit c.args.self c.args.d c.if-d-lt64.true)

pub returns-else-d-lt64 : goal.returns-else-d-lt64
returns-else-d-lt64 c = le-ltb c.args.d 64 c.if-d-lt64.false ∙ sym (no_member c.args.self c.args.d c.if-d-lt64.false)
