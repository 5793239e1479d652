use Rattle.std.proofs.Common.{refl, ◌∙◌, rules, tests}
use Rattle.std.proofs.lemmas.Iterator.{YieldsList-from_range, YieldsList-from_slice, YieldsList-from_zip}
use Rattle.std.proofs.lemmas.Iterator.Consumers.{YieldsList-from_filter}
use Rattle.rules.proofs.Folds.{gathered_by_fold}
use Rattle.rules.proofs.Rounds.{numbers_marked}
use Rattle.rules.proofs.active.marked.Goals as goal

pub returns : goal.returns
returns c =
    let ds = c.args.decisions.now in
    gathered_by_fold c.fold.ensures.ran
    (YieldsList-from_filter _ (λ p. p.1.on) (YieldsList-from_zip (YieldsList-from_range 0 64 64 (cc) refl) (YieldsList-from_slice ds (cc))) c.filter.ensures.closure (λ x b q call. search (rules, tests)))
    (λ p. p.0) c.empty.ensures (λ b x a q call. (search rules, search rules))
    ∙ numbers_marked ds c.requires
