use Rattle.std.proofs.Common.{sym, ◌∙◌, arith}
use Rattle.rules.specs.Conditions.{from_bytes}
use Rattle.sets.specs.Members.{members}
use Rattle.tables.specs.Excluded.{exclusions_of}
use Rattle.tables.specs.Trails.{trail_of}
use Rattle.planner.specs.Planners.{account_of}
use Rattle.planner.proofs.Stepped.{entered, free_value, stuck}
use Rattle.planner.proofs.planner.Planner.extend.Goals as goal

pub invariant_of-push : goal.invariant_of-push
invariant_of-push g c =
    let d = c.args.domain in
    let (low, high) = free_value (exclusions_of c.try_values.new.exclusions d.decision) d.size c.in-Some.value (sym c.in-Some.ensures) in
    record { known = d.known; some = low; few = omega (arith, high, d.few) }

pub returns-in-Some : goal.returns-in-Some
returns-in-Some g c =
    let d = c.args.domain in
    entered g.M.Measure.meaning (account_of c.args.self.now) d.decision d.size c.best_cost-best.result (from_bytes c.plan-plan.result.now) (exclusions_of c.try_values.new.exclusions)
    c.requires.known.0 c.best_cost-best.ensures c.plan-plan.ensures c.try_values.ensures c.in-Some.value (members c.support_of-support.result) (trail_of c.push.new.self)
    c.support_of-support.ensures c.in-Some.ensures c.push.ensures

pub returns-in-None : goal.returns-in-None
returns-in-None g c =
    let d = c.args.domain in
    c.retreat.ensures
    ∙ stuck g.M.Measure.meaning (account_of c.args.self.now) d.decision d.size c.best_cost-best.result (from_bytes c.plan-plan.result.now) (exclusions_of c.try_values.new.exclusions)
    c.requires.known.0 c.best_cost-best.ensures c.plan-plan.ensures c.try_values.ensures (members c.support_of-support.result) (members c.reasons_of.result) (members c.union-blamed.result)
    c.any_rests-rests.result c.support_of-support.ensures c.in-None.ensures c.reasons_of.ensures c.any_rests-rests.ensures c.union-blamed.ensures
