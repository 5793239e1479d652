use Rattle.std.proofs.Common.{◌≡◌, ℕ, ◌+◌, ◌-◌, ◌<◌, length, get_or, sym, ◌∙◌, subst, arith}
use Rattle.std.proofs.lemmas.List.{get_or-set_other, length-set}
use Rattle.sets.specs.Members.{members}
use Rattle.tables.specs.Entries.{blank}
use Rattle.tables.specs.Retreats.{Sweeping, swept}
use Rattle.tables.specs.declared.entry.Entry.{Entry}
use Rattle.tables.proofs.Entering.{entry_proper}
use Rattle.tables.proofs.Sweeps.{met_below, sweep_begins, sweep_drops, sweep_keeps}
use Rattle.tables.proofs.trail.moves.sweep.Goals as goal
use Rattle.tables.proofs.trail.moves.sweep.Goals.{then-meets, else-meets}

pub bounds-values-culprit : goal.bounds-values-culprit
bounds-values-culprit c = (entry_proper c.args.entries.now (length c.args.entries.now) c.args.at c.requires.distinct c.requires.within).0.known

pub bounds-values-entry : goal.bounds-values-entry
bounds-values-entry c =
    met_below c.args.entries.now c.args.at c.loop-i.i c.requires.distinct (omega arith) (omega arith) (get_or c.loop-i.entries c.loop-i.i blank) (sym (c.loop-i.invariant.3 c.loop-i.i (omega arith)))

pub loop-i-preserved : goal.loop-i-preserved
loop-i-preserved c =
    let es = c.args.entries.now in
    let i = c.loop-i.i in
    let n = c.loop-i.place in
    let e : Entry = get_or c.loop-i.entries i blank in
    let is : get_or es i blank ≡ e = sym (c.loop-i.invariant.3 i (omega arith)) in
    let before : c.args.at < i = omega arith in
    let within : i < length es = omega arith in
    elim c.if-meets.branch [
      | then-meets w ↦
          rw (w.entries-is, w.values-is, w.left-is, w.place-is) (
            omega arith,
            c.loop-i.invariant.1,
            length-set c.loop-i.values e.decision 0 ∙ c.loop-i.invariant.2,
            λ k l. c.loop-i.invariant.3 k (omega arith),
            λ vs h. sweep_drops es c.args.at i c.requires.distinct before within e is (c.loop-i.invariant.4 vs h) (sym w.if-meets.ensures) (members w.with-left-then-meets.result) w.with-left-then-meets.ensures,
          )
      | else-meets w ↦
          rw (w.entries-is, w.values-is, w.left-is, w.place-is) (
            omega arith,
            length-set c.loop-i.entries n e ∙ c.loop-i.invariant.1,
            c.loop-i.invariant.2,
            λ k l. get_or-set_other c.loop-i.entries n k e blank (λ (q : k ≡ n). omega arith) ∙ c.loop-i.invariant.3 k (omega arith),
            λ vs h. sweep_keeps es c.args.at i c.requires.distinct before within e is (c.loop-i.invariant.4 vs h) (sym w.if-meets.ensures) (omega arith),
          )
    ]

pub returns : goal.returns
returns c =
    let es = c.args.entries.now in
    let vs = c.args.values.now in
    let done : c.loop-i.i ≡ length es = omega (arith, c.loop-i.auto.i-end) in
    let P : ℕ → Type 0 = λ k. Sweeping es vs (swept es c.args.at (k - (c.args.at + 1))) c.loop-i.entries c.loop-i.values c.loop-i.place (members c.loop-i.left) in
    record {
      few = omega arith;
      after =
          subst P done
          (c.loop-i.invariant.4 vs
          (sweep_begins es vs c.args.at (members c.empty.result) (members c.with-left.result) (omega arith)
          (entry_proper es (length es) c.args.at c.requires.distinct c.requires.within).0.known c.empty.ensures c.with-left.ensures));
    }
