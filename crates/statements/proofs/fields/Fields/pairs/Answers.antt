use Rattle.std.proofs.lemmas.Grind.{common_steps}
use Rattle.std.proofs.Common.{◌≡◌, ℕ, List, Err, sym, ap, ◌∙◌, arith, rules}
use Rattle.std.proofs.lemmas.Result.{err_from_is_err_and}
use Rattle.reading.specs.Cursors.{column, left}
use Rattle.statements.specs.Forms.{pair_of}
use Rattle.statements.specs.Statements.{formed}
use Rattle.statements.specs.Views.{on_ok, pairs_of}
use Rattle.statements.proofs.Gathers.{bad_pair, no_pair}
use Rattle.statements.proofs.fields.Fields.pairs.Goals as goal

pub returns-in_err-pair : goal.returns-in_err-pair
returns-in_err-pair c =
    let p = err_from_is_err_and c.from_residual.result c.from_residual.ensures.1 in
    let took = c.in-Some.ensures.steps in
    let n : ℕ = c.args.self.line in
    let it = c.loop-field.field-iterator in
    let f : List ℕ = c.in-Some.field.bytes.now in
    let bad : formed n (column it) (pair_of f) ≡ Err c.in_err-pair.field-0.0 = search rules in
    ap (on_ok pairs_of) p.1 ∙ ap Err p.2 ∙ sym (c.loop-field.invariant ∙ bad_pair n (column it) (pairs_of c.loop-field.pairs) f _ (left c.next.new.self) c.in_err-pair.field-0.0 took.first bad)

pub returns : goal.returns
returns c = grind (arith, common_steps, no_pair)
