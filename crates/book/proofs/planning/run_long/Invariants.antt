use Rattle.std.proofs.Common.{◌≡◌}
use Rattle.measure.specs.Supplied.{cents, pair_of, tier}
use Rattle.planner.specs.Planners.{account_of}
use Rattle.book.specs.Outcomes.{after_runs}
use Rattle.book.proofs.planning.run_long.Given as goal

abbrev pub invariant-loop-made : goal.invariant-loop-made
invariant-loop-made l = account_of l.planner ≡ after_runs (pair_of tier cents) l.made 100000 (account_of l.initial.planner)
