use Rattle.std.proofs.Common.{◌≡◌, ◌+◌, ◌∙◌, refl, rules, arith}
use Rattle.std.proofs.lemmas.Iterator.{YieldsList-from_range}
use Rattle.sets.specs.Members.{members}
use Rattle.tables.specs.Excluded.{exclusions_of}
use Rattle.rules.proofs.Folds.{kept_by_fold}
use Rattle.tables.proofs.Frees.{gathered, gathered_is, gathered_more}
use Rattle.tables.proofs.exclusions.Exclusions.reasons_of.Goals as goal

pub returns : goal.returns
returns c =
    let ex = exclusions_of c.args.self.now c.args.domain.decision in
    kept_by_fold c.fold.ensures.ran _ (YieldsList-from_range 1 (c.args.domain.size + 1) c.args.domain.size refl (omega arith)) (λ vs all. members all ≡ gathered ex vs) c.empty.ensures
    (λ vs all v more f' before k. (gathered_more ex vs v (members all) (members more) before (search rules), search rules))
    ∙ gathered_is ex c.args.domain.size
