use Rattle.std.proofs.Common.{Err, sym, ap, ◌∙◌}
use Rattle.std.proofs.lemmas.Result.{err_from_is_err_and}
use Rattle.measure.specs.Supplied.{cents}
use Rattle.planner.specs.Planners.{account_of}
use Rattle.engine.specs.Answered.{on_ok}
use Rattle.engine.proofs.Reading.{ends, goes_on, stops}
use Rattle.engine.proofs.loading.read_rules.Goals as goal

pub returns-in_err-read_rule : goal.returns-in_err-read_rule
returns-in_err-read_rule c =
    let q = err_from_is_err_and c.from_residual.result c.from_residual.ensures.1 in
    ap (on_ok _) (q.1 ∙ ap Err q.2)
    ∙ sym (c.loop-bytes.invariant ∙ stops cents (account_of c.loop-bytes.planner) c.args.records.now c.loop-bytes.bytes-index _ c.loop-bytes-test.true c.in_err-read_rule.field-0.0 c.in_err-read_rule.ensures)

pub loop-bytes-preserved : goal.loop-bytes-preserved
loop-bytes-preserved c =
    c.loop-bytes.invariant
    ∙ goes_on cents (account_of c.loop-bytes.planner) c.args.records.now c.loop-bytes.bytes-index _ c.loop-bytes-test.true (account_of c.read_rule.new.planner) c.in_ok-read_rule.ensures

pub returns : goal.returns
returns c = sym (c.loop-bytes.invariant ∙ ends cents (account_of c.loop-bytes.planner) c.args.records.now c.loop-bytes.bytes-index c.loop-bytes-test.false)
