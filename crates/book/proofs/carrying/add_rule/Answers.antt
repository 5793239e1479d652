use Rattle.std.proofs.Common.{◌≡◌, List, None, ◌∙◌, subst}
use Rattle.rules.specs.Compose.{compose_refusal, composed}
use Rattle.rules.specs.declared.literal.Literal.{Literal}
use Rattle.planner.specs.Planners.{account_of}
use Rattle.statements.specs.Views.{pairs_of}
use Rattle.book.proofs.Carries.{composed_leaves, composed_says}
use Rattle.book.proofs.carrying.add_rule.Goals as goal

pub returns : goal.returns
returns g c =
    let p = c.args.parts.now in
    let m = g.M.Measure.meaning in
    let a = account_of c.args.planner.now in
    let r = c.in_ok-of.field-0 in
    let made : (compose_refusal p.kind (pairs_of p.pairs) p.price ≡ None) × (r.row ≡ composed p.kind (pairs_of p.pairs) p.target p.price) =
    subst (λ (ps : List Literal). (compose_refusal p.kind ps p.price ≡ None) × (r.row ≡ composed p.kind ps p.target p.price)) c.as_slice-pairs.ensures c.in_ok-of.ensures
    in
    record {
      value = composed_says m a r p.kind (pairs_of p.pairs) p.target p.price made.0 made.1 c.add.result c.add.ensures.value;
      after = c.add.ensures.after ∙ composed_leaves m a r p.kind (pairs_of p.pairs) p.target p.price made.0 made.1;
    }
