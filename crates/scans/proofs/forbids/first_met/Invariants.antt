use Rattle.std.proofs.Common.{◌≡◌, drop}
use Rattle.account.specs.Steps.{first_met}
use Rattle.rules.specs.Conditions.{from_bytes, meets}
use Rattle.scans.proofs.forbids.first_met.Given as goal

abbrev pub invariant-pairs : goal.invariant-pairs
invariant-pairs l = meets (from_bytes l.plan) l.pairs ≡ meets (from_bytes l.plan) (drop l.pair-index l.pairs)

abbrev pub invariant-rows : goal.invariant-rows
invariant-rows l = first_met l.rows (from_bytes l.plan) ≡ first_met (drop l.row-index l.rows) (from_bytes l.plan)
