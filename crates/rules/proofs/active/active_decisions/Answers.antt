use Rattle.std.proofs.Common.{ℕ, length, filter, sym, refl, ap, ◌∙◌, add-one, arith}
use Rattle.rules.specs.Conditions.{from_bytes}
use Rattle.rules.specs.Plans.{on_at, rounds}
use Rattle.rules.proofs.Verdicts.{bytes_idle}
use Rattle.sets.specs.Members.{members}
use Rattle.rules.proofs.Rounds.{same_grown}
use Rattle.rules.proofs.active.active_decisions.Goals as goal

pub loop-preserved : goal.loop-preserved
loop-preserved g c d low =
    let rs = filter g.C.Counting.counted c.args.rows.now in
    let bytes = c.args.plan.now in
    let p = from_bytes bytes in
    let on = on_at c.args.decisions.now in
    same_grown p (λ k h. bytes_idle bytes (length bytes) refl k (omega arith)) (members c.loop.active) (rounds c.loop.counter rs p on) c.loop.invariant rs (from_bytes c.choices-chosen.result) (members c.enabled.result)
    (members c.union-active.result) c.choices-chosen.ensures c.enabled.ensures c.union-active.ensures d low
    ∙ ap (λ (n : ℕ). rounds n rs p on d) (sym (add-one c.loop.counter))
