use Rattle.rules.specs.Conditions.{from_bytes}
use Rattle.sets.specs.Members.{members}
use Rattle.planner.specs.Books.{book_of}
use Rattle.planner.proofs.Trying.{cost_hit}
use Rattle.planner.proofs.trials.Trials.try_cost.Goals as goal

pub returns : goal.returns
returns g c =
    cost_hit g.M.Measure.meaning (book_of c.args.self.now.book.now) c.args.self.now.domain.decision (from_bytes c.args.plan.now) c.args.best c.fill-cost.result c.rows-rows.result.now (members c.kept_named-reason.result)
    (members c.without.result) c.rows-rows.ensures.value c.fill-cost.ensures.total c.if-not-reaches.ensures c.kept_named-reason.ensures c.without.ensures
