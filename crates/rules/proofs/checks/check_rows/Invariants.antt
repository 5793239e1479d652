use Rattle.std.proofs.Common.{◌≡◌, drop}
use Rattle.rules.specs.Judging.{rows_refusal}
use Rattle.rules.proofs.checks.check_rows.Given as goal

abbrev pub invariant-loop-row : goal.invariant-loop-row
invariant-loop-row l = rows_refusal l.decisions l.rows ≡ rows_refusal l.decisions (drop l.row-index l.rows)
