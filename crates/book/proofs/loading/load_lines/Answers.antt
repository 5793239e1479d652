use Rattle.std.proofs.lemmas.Grind.{common_steps}
use Rattle.std.proofs.Common.{Err, sym, ap, ◌∙◌, arith}
use Rattle.std.proofs.lemmas.Result.{err_from_is_err_and}
use Rattle.planner.specs.Planners.{account_of}
use Rattle.statements.specs.Views.{left_lines, line_of, on_ok}
use Rattle.book.proofs.LoadSteps.{lines_end, lines_go_on, lines_stop}
use Rattle.book.proofs.loading.load_lines.Goals as goal

pub returns-in_err-began : goal.returns-in_err-began
returns-in_err-began g c =
    let q = err_from_is_err_and c.from_residual.result c.from_residual.ensures.1 in
    ap (on_ok _) (q.1 ∙ ap Err q.2)
    ∙ sym
    (c.loop-line.invariant
    ∙ lines_stop g.M.Measure.meaning c.loop-line.began (account_of c.loop-line.planner) (line_of c.in-Some.line) (left_lines c.next.new.self) _ c.in_err-began.field-0.0 c.in-Some.ensures.steps.0 (sym c.in_err-began.ensures))

pub loop-line-preserved : goal.loop-line-preserved
loop-line-preserved g c = grind (arith, common_steps, lines_go_on)

pub returns : goal.returns
returns g c = sym (c.loop-line.invariant ∙ lines_end g.M.Measure.meaning c.loop-line.began (account_of c.loop-line.planner) _ c.in-None.ensures.steps.0.0)
