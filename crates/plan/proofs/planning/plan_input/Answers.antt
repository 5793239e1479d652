use Rattle.measure.specs.Supplied.{cents, pair_of, tier}
use Rattle.plan.proofs.Cutting.{planned_whole}
use Rattle.plan.proofs.planning.plan_input.Goals as goal

pub returns-clause-whole : goal.returns-clause-whole
returns-clause-whole g c = planned_whole (pair_of tier cents) (g.R.Read.remaining c.args.input.now) c.in_ok-book.book.now c.plan.result.now c.in_ok-book.ensures.first c.plan.ensures
