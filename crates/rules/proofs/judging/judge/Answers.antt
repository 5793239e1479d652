use Rattle.std.proofs.Common.{length, sym, subst}
use Rattle.rules.specs.Conditions.{Plan}
use Rattle.rules.specs.Judging.{Judged, book_of}
use Rattle.rules.proofs.Verdicts.{plan_part, judge_accepts}
use Rattle.rules.proofs.judging.judge.Goals as goal

pub returns : goal.returns
returns g c =
    let ds = c.args.decisions.now in
    let rs = c.args.rows.now in
    let bytes = c.args.plan.now in (
      judge_accepts ds rs bytes (sym c.in_ok-check_decisions.ensures) (sym c.in_ok-check_rows.ensures) c.if-plan-decisions.false,
      subst (λ (p : Plan). Judged g.M.Measure.meaning (book_of ds rs) p c.verdict.result) (plan_part (length ds) bytes) c.verdict.ensures,
    )
