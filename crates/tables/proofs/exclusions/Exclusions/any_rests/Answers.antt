use Rattle.std.proofs.Common.{◌+◌, ◌∙◌, refl, rules, tests, arith}
use Rattle.std.proofs.lemmas.Iterator.{YieldsList-from_range}
use Rattle.std.proofs.lemmas.Iterator.Search.{any_from_yields_List}
use Rattle.account.specs.Steps.{rests_on}
use Rattle.tables.specs.Excluded.{exclusions_of}
use Rattle.tables.proofs.Frees.{any_rests_is}
use Rattle.tables.proofs.exclusions.Exclusions.any_rests.Goals as goal

pub returns : goal.returns
returns c =
    let ex = exclusions_of c.args.self.now c.args.domain.decision in
    any_from_yields_List (λ v. rests_on (ex v)) _ _ c.any.result c.any.ensures.ran (YieldsList-from_range 1 (c.args.domain.size + 1) c.args.domain.size refl (omega arith)) (λ x b q k. search (rules, tests))
    ∙ any_rests_is ex c.args.domain.size
