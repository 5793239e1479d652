use Rattle.std.proofs.Common.{◌≡◌, drop}
use Rattle.measure.specs.Supplied.{cents}
use Rattle.planner.specs.Planners.{account_of}
use Rattle.engine.specs.Answered.{read_records}
use Rattle.engine.proofs.loading.read_rules.Given as goal

abbrev pub invariant-loop-bytes : goal.invariant-loop-bytes
invariant-loop-bytes l = read_records cents (account_of l.initial.planner) l.records ≡ read_records cents (account_of l.planner) (drop l.bytes-index l.records)
