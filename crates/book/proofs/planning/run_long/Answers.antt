use Rattle.measure.specs.Supplied.{cents, pair_of, tier}
use Rattle.planner.specs.Planners.{account_of}
use Rattle.book.proofs.Running.{never_refused, no_runs, one_run}
use Rattle.book.proofs.planning.run_long.Goals as goal

pub loop-made-init : goal.loop-made-init
loop-made-init c = no_runs (pair_of tier cents) 100000 (account_of c.args.planner.now)

pub unwrap-requires : goal.unwrap-requires
unwrap-requires c = never_refused (pair_of tier cents) (account_of c.loop-made.planner) c.run.result c.run.ensures.value

pub loop-made-preserved : goal.loop-made-preserved
loop-made-preserved c = one_run (pair_of tier cents) c.loop-made.made 100000 (account_of c.args.planner.now) (account_of c.loop-made.planner) (account_of c.run.new.self) c.loop-made.invariant c.run.ensures.after
