use Rattle.std.proofs.Common.{◌≡◌}
use Rattle.account.specs.Calls.{made}
use Rattle.account.specs.Steps.{advance}
use Rattle.planner.specs.Planners.{account_of}
use Rattle.planner.proofs.planner.Planner.run.Given as goal

abbrev pub invariant-loop-made : goal.invariant-loop-made
invariant-loop-made g l =
    let m = g.M.Measure.meaning in
    let a = account_of l.initial.self in
    (account_of l.self ≡ advance m l.made a) × (l.made ≡ made m l.made a)
