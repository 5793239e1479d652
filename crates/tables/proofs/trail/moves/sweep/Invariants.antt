use Rattle.std.proofs.Common.{◌≡◌, ℕ, ◌+◌, ◌-◌, ◌<◌, ◌≤◌, List, length, get_or}
use Rattle.sets.specs.Members.{members}
use Rattle.tables.specs.Entries.{blank}
use Rattle.tables.specs.Retreats.{Sweeping, swept}
use Rattle.tables.proofs.trail.moves.sweep.Given as goal

-- the entries from i on are as they were, and what began as a sweep, of any values, is now the sweep up to i
abbrev pub invariant-loop-i : goal.invariant-loop-i
invariant-loop-i l =
    (l.place < l.i) × (length l.entries ≡ length l.initial.entries) × (length l.values ≡ 64)
    × ((k : ℕ) → l.i ≤ k → get_or l.entries k blank ≡ get_or l.initial.entries k blank)
    × ((vs : List ℕ) → Sweeping l.initial.entries vs (swept l.initial.entries l.at 0) l.initial.entries l.initial.values l.at (members l.initial.left)
    → Sweeping l.initial.entries vs (swept l.initial.entries l.at (l.i - (l.at + 1))) l.entries l.values l.place (members l.left))
