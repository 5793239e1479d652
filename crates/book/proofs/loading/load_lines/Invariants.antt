use Rattle.std.proofs.Common.{◌≡◌, false}
use Rattle.planner.specs.Planners.{account_of}
use Rattle.statements.specs.Lines.{lines_of}
use Rattle.statements.specs.Views.{left_lines}
use Rattle.book.specs.Loads.{load_lines}
use Rattle.book.proofs.loading.load_lines.Given as goal

abbrev pub invariant-loop-line : goal.invariant-loop-line
invariant-loop-line g l = load_lines g.M.Measure.meaning false (account_of l.fn.planner) (lines_of l.fn.text) ≡ load_lines g.M.Measure.meaning l.began (account_of l.planner) (left_lines l.line-iterator)
