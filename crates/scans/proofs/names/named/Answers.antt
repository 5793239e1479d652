use Rattle.std.proofs.Common.{ap, ◌∙◌, rules}
use Rattle.std.proofs.lemmas.Iterator.{YieldsList-from_slice}
use Rattle.rules.proofs.Folds.{gathered, gathered_by_fold}
use Rattle.rules.specs.declared.literal.Literal.{Literal}
use Rattle.scans.proofs.Naming.{gathered_known}
use Rattle.scans.proofs.names.named.Goals as goal

pub returns : goal.returns
returns c =
    gathered_by_fold c.fold.ensures.ran (YieldsList-from_slice _ c.iter.ensures.rest) (λ l. l.decision) c.empty.ensures (λ b x a q call. (search rules, search rules))
    ∙ ap (gathered (λ (l : Literal). l.decision)) c.condition.ensures ∙ gathered_known _ c.requires
