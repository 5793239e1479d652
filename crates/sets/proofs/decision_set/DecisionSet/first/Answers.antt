-- The first bits are the first decisions.
use Rattle.std.proofs.Common.{ℕ, min, ap, ◌∙◌, arith}
use Rattle.sets.specs.Members.{members}
use Rattle.sets.proofs.Decisions.{members_first}
use Rattle.sets.proofs.decision_set.DecisionSet.first.Goals as goal

pub returns : goal.returns
returns c = ap (λ (n : ℕ). members (record { bits = n })) c.first_bits.ensures ∙ members_first (min c.args.count 64) (omega arith)
