use Rattle.std.proofs.Common.{◌≡◌, ℕ, ◌||◌, drop}
use Rattle.account.specs.Steps.{kept, named_in}
use Rattle.rules.specs.Conditions.{from_bytes}
use Rattle.sets.specs.Members.{members}
use Rattle.scans.proofs.prices.SuffixCosts.kept_named.Given as goal

abbrev pub invariant-loop-i : goal.invariant-loop-i
invariant-loop-i g l =
    let m = g.M.Measure.meaning in
    let p = from_bytes l.plan in
    (x : ℕ) → (members l.set x || named_in (kept m l.best l.before (drop l.i l.rows) p) x) ≡ named_in (kept m l.best m.neutral l.rows p) x
