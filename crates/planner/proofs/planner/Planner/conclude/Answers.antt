use Rattle.std.proofs.Common.{◌∙◌}
use Rattle.rules.specs.Conditions.{from_bytes}
use Rattle.sets.specs.Members.{members}
use Rattle.planner.specs.Bests.{best_of}
use Rattle.planner.specs.Planners.{account_of}
use Rattle.planner.proofs.Stepped.{concluded}
use Rattle.planner.proofs.planner.Planner.conclude.Goals as goal

pub returns : goal.returns
returns g c =
    c.retreat.ensures
    ∙ concluded g.M.Measure.meaning (account_of c.args.self.now) 0 (from_bytes c.plan-plan.result.now) (best_of c.weigh-best.result.0) (members c.weigh-best.result.1)
    c.plan-plan.ensures c.weigh-best.ensures.best c.weigh-best.ensures.blame
