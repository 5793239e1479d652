use Rattle.std.proofs.Common.{Err, sym, ap, ◌∙◌}
use Rattle.std.proofs.lemmas.Result.{err_from_is_err_and}
use Rattle.planner.specs.Planners.{account_of}
use Rattle.statements.specs.Views.{line_of, on_ok, stated_of}
use Rattle.book.proofs.LoadSteps.{line_done, line_refused, line_unread}
use Rattle.book.proofs.loading.load_line.Goals as goal

pub returns-in_err-statement : goal.returns-in_err-statement
returns-in_err-statement g c =
    let q = err_from_is_err_and c.from_residual.result c.from_residual.ensures.1 in
    ap (on_ok _) (q.1 ∙ ap Err q.2)
    ∙ sym (line_unread g.M.Measure.meaning c.args.began (account_of c.args.planner.now) (line_of c.args.line.now) c.in_err-statement.field-0.0 (sym c.in_err-statement.ensures))

pub returns-in-Ok : goal.returns-in-Ok
returns-in-Ok g c =
    line_done g.M.Measure.meaning c.args.began (account_of c.args.planner.now) (line_of c.args.line.now) (stated_of c.in_ok-statement.statement) c.in-Ok.field-0 c.has_begun.result (account_of c.carry_out.new.planner)
    c.in_ok-statement.ensures c.in-Ok.ensures.value c.carry_out.ensures.after c.has_begun.ensures

pub returns-in-Err : goal.returns-in-Err
returns-in-Err g c =
    ap Err c.at_line.ensures
    ∙ sym
    (line_refused g.M.Measure.meaning c.args.began (account_of c.args.planner.now) (line_of c.args.line.now) (stated_of c.in_ok-statement.statement) c.in-Err.refusal c.in_ok-statement.ensures c.in-Err.ensures.value)
