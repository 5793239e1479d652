use Rattle.std.proofs.Common.{◌≡◌, ℕ, ◌<◌, filter}
use Rattle.rules.specs.Conditions.{from_bytes}
use Rattle.rules.specs.Plans.{on_at, rounds}
use Rattle.sets.specs.Members.{members}
use Rattle.rules.proofs.active.active_decisions.Given as goal

abbrev pub invariant-loop : goal.invariant-loop
invariant-loop g l = (d : ℕ) → d < 64 → members l.active d ≡ rounds l.counter (filter g.C.Counting.counted l.rows) (from_bytes l.plan) (on_at l.decisions) d
