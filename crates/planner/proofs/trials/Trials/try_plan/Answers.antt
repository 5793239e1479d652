use Rattle.std.proofs.Common.{sym, ap, ◌∙◌}
use Rattle.rules.specs.Conditions.{from_bytes}
use Rattle.sets.specs.Members.{members}
use Rattle.tables.specs.Excluded.{as_exclusion}
use Rattle.planner.specs.Books.{book_of}
use Rattle.planner.specs.Trials.{by_cost}
use Rattle.planner.proofs.Trying.{first_known, forbid_hit, forbid_miss}
use Rattle.planner.proofs.trials.Trials.try_plan.Goals as goal

pub named-requires : goal.named-requires
named-requires g c = first_known c.rows.result.now (from_bytes c.args.plan.now) c.in-Some.row.now c.rows.ensures.known c.in-Some.ensures

pub returns-in-Some : goal.returns-in-Some
returns-in-Some g c =
    forbid_hit g.M.Measure.meaning (book_of c.args.self.now.book.now) c.args.self.now.domain.decision (from_bytes c.args.plan.now) c.args.self.now.best c.rows.result.now c.in-Some.row.now (members c.named.result)
    (members c.without.result) c.rows.ensures.value c.in-Some.ensures c.named.ensures c.without.ensures

-- no forbid rule is met, so the cost decides
pub returns-in_err-best : goal.returns-in_err-best
returns-in_err-best g c =
    let m = g.M.Measure.meaning in
    let b = book_of c.args.self.now.book.now in
    let d = c.args.self.now.domain.decision in
    let p = from_bytes c.args.plan.now in
    ap as_exclusion c.from_residual.ensures ∙ ap (by_cost m b d p) (sym c.in_err-best.was)
    ∙ forbid_miss m b d p c.args.self.now.best c.rows.result.now c.rows.ensures.value c.in_default.ensures

pub returns : goal.returns
returns g c =
    let m = g.M.Measure.meaning in
    let b = book_of c.args.self.now.book.now in
    let d = c.args.self.now.domain.decision in
    let p = from_bytes c.args.plan.now in
    c.try_cost.ensures ∙ ap (by_cost m b d p) (sym c.in_ok-best.was) ∙ forbid_miss m b d p c.args.self.now.best c.rows.result.now c.rows.ensures.value c.in_default.ensures
