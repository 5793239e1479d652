use Rattle.std.proofs.Common.{◌≡◌, List, None, Err, ap, ◌∙◌, subst, arith}
use Rattle.std.proofs.lemmas.Grind.{common_steps}
use Rattle.std.proofs.lemmas.Result.{err_from_is_err_and}
use Rattle.measure.specs.Supplied.{cents}
use Rattle.planner.specs.Planners.{account_of}
use Rattle.rules.specs.Compose.{compose_refusal, composed}
use Rattle.rules.specs.declared.literal.Literal.{Literal}
use Rattle.engine.specs.Answered.{on_ok}
use Rattle.engine.proofs.Reading.{add_refused}
use Rattle.engine.proofs.loading.read_rule.Goals as goal

pub returns-in_err-add : goal.returns-in_err-add
returns-in_err-add c =
    let q = err_from_is_err_and c.from_residual-in_err-add.result c.from_residual-in_err-add.ensures.1 in
    let row = c.in_ok-row.row in
    let r = c.in_ok-rule.rule in
    let made = subst (λ (ps : List Literal). (compose_refusal row.kind ps row.price ≡ None) × (r.row ≡ composed row.kind ps row.target row.price)) c.condition.ensures c.in_ok-rule.ensures in
    ap (on_ok _) (q.1 ∙ ap Err q.2) ∙ add_refused cents (account_of c.args.planner.now) c.args.bytes.now row r c.in_err-add.field-0.0 (grind (arith, common_steps)) made.0 made.1 c.in_err-add.ensures.value
