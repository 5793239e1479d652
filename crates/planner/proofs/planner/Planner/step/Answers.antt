use Rattle.std.proofs.Common.{IfSome, sym, ap, ◌∙◌, rules, subst}
use Rattle.std.specs.Option.{option_map}
use Rattle.account.specs.Steps.{step_at}
use Rattle.rules.specs.Conditions.{from_bytes}
use Rattle.tables.specs.declared.domain.Domain.{Domain}
use Rattle.planner.specs.Books.{IsDomain}
use Rattle.planner.specs.Planners.{account_of}
use Rattle.planner.proofs.Stepped.{picked_idle, step_by}
use Rattle.planner.proofs.planner.Planner.step.Goals as goal

pub extend-requires : goal.extend-requires
extend-requires g c =
    let book = (account_of c.args.self.now).book in
    let idle =
    (picked_idle g.M.Measure.meaning (account_of c.args.self.now) (from_bytes c.plan.result.now) _ c.plan.ensures c.pick_decision.ensures.picked
    c.in-Some.domain.decision (ap (option_map (λ (x : Domain). x.decision)) c.in-Some.is)).1 in
    (search rules, (subst (λ o. IfSome o (IsDomain book)) c.in-Some.is c.pick_decision.ensures.domain, idle))

pub returns-in-Some : goal.returns-in-Some
returns-in-Some g c =
    let m = g.M.Measure.meaning in
    let a = account_of c.args.self.now in
    c.extend.ensures ∙ ap (λ o. step_at m a (option_map (λ (x : Domain). x.decision) o)) (sym c.in-Some.is)
    ∙ step_by m a (from_bytes c.plan.result.now) _ c.plan.ensures c.pick_decision.ensures.picked

pub returns-in-None : goal.returns-in-None
returns-in-None g c =
    let m = g.M.Measure.meaning in
    let a = account_of c.args.self.now in
    c.conclude.ensures ∙ ap (λ o. step_at m a (option_map (λ (x : Domain). x.decision) o)) (sym c.in-None.is)
    ∙ step_by m a (from_bytes c.plan.result.now) _ c.plan.ensures c.pick_decision.ensures.picked
