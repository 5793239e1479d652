use Rattle.std.proofs.Common.{◌≡◌, ℕ, ◌<◌, ◌||◌, drop, filter}
use Rattle.rules.specs.Conditions.{from_bytes}
use Rattle.rules.specs.Plans.{enables}
use Rattle.sets.specs.Members.{members}
use Rattle.rules.proofs.active.enabled.Given as goal

abbrev pub invariant-loop-row : goal.invariant-loop-row
invariant-loop-row g l =
    let k = g.C.Counting.counted in
    (d : ℕ) → d < 64 → (members l.targets d || enables (filter k (drop l.row-index l.rows)) (from_bytes l.plan) d) ≡ enables (filter k l.rows) (from_bytes l.plan) d
