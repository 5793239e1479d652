use Rattle.std.proofs.Common.{sym, ◌∙◌}
use Rattle.planner.specs.Planners.{account_of}
use Rattle.book.proofs.LoadSteps.{accepted_left, lines_verdict, refused_left}
use Rattle.book.proofs.loading.load.Goals as goal

pub returns-then-is_err-clause-value : goal.returns-then-is_err-clause-value
returns-then-is_err-clause-value g c =
    lines_verdict g.M.Measure.meaning c.args.text.now (account_of c.clear.new.planner) (account_of c.load_lines-outcome.new.planner) c.load_lines-outcome.result c.load_lines-outcome.ensures c.clear.ensures c.if-text-gt-MOST_BYTES.false

pub returns-else-is_err-clause-value : goal.returns-else-is_err-clause-value
returns-else-is_err-clause-value g c =
    lines_verdict g.M.Measure.meaning c.args.text.now (account_of c.clear.new.planner) (account_of c.load_lines-outcome.new.planner) c.load_lines-outcome.result c.load_lines-outcome.ensures c.clear.ensures c.if-text-gt-MOST_BYTES.false

pub returns-then-is_err-clause-after : goal.returns-then-is_err-clause-after
returns-then-is_err-clause-after g c =
    c.clear-then-is_err.ensures ∙ refused_left g.M.Measure.meaning c.args.text.now (account_of c.clear.new.planner) (account_of c.load_lines-outcome.new.planner) c.load_lines-outcome.result c.load_lines-outcome.ensures c.clear.ensures c.if-text-gt-MOST_BYTES.false (sym c.if-is_err.ensures.value)

pub returns-else-is_err-clause-after : goal.returns-else-is_err-clause-after
returns-else-is_err-clause-after g c =
    accepted_left g.M.Measure.meaning c.args.text.now (account_of c.clear.new.planner) (account_of c.load_lines-outcome.new.planner) c.load_lines-outcome.result c.load_lines-outcome.ensures c.clear.ensures c.if-text-gt-MOST_BYTES.false (sym c.if-is_err.ensures.value)
