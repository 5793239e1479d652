use Rattle.std.proofs.Common.{◌+◌, ◌-◌, length, take, refl, ap, ◌∙◌}
use Rattle.arrayvec.proofs.ArrayVecLemmas.{items-with_items}
use Rattle.sets.specs.Members.{members}
use Rattle.tables.specs.Retreats.{swept}
use Rattle.tables.proofs.Parting.{retreat_none}
use Rattle.tables.proofs.Sweeps.{sweep_retreats, sweep_known, sweep_proper, sweep_planned}
use Rattle.tables.proofs.trail.Trail.retreat.Goals as goal

pub returns-in_err-at : goal.returns-in_err-at
returns-in_err-at c =
    rw c.from_residual.ensures (retreat_none (members c.args.blame) c.args.self.now.entries.items c.in_err-at.ensures, refl)

pub invariant_of-self : goal.invariant_of-self
invariant_of-self c =
    let t = c.args.self.now in
    let es = t.entries.items in
    let s = members c.args.blame in
    let place = c.in_ok-at.at in
    let l = c.in_ok-at.ensures in
    let h = rw c.as_mut_slice.ensures.value at c.sweep-count.ensures.after in
    let few = rw c.as_mut_slice.ensures.value at c.sweep-count.ensures.few in
    let stays = c.truncate.ensures.items ∙ ap (take c.sweep-count.result.0) (items-with_items t.entries c.sweep-count.new.entries h.full) in
    rw stays (record { distinct = sweep_proper s es place l t.distinct h few; planned = sweep_planned s es place l t.distinct h few t.planned })

pub returns : goal.returns
returns c =
    let t = c.args.self.now in
    let es = t.entries.items in
    let s = members c.args.blame in
    let place = c.in_ok-at.at in
    let l = c.in_ok-at.ensures in
    let h = rw c.as_mut_slice.ensures.value at c.sweep-count.ensures.after in
    let few = rw c.as_mut_slice.ensures.value at c.sweep-count.ensures.few in
    let stays = c.truncate.ensures.items ∙ ap (take c.sweep-count.result.0) (items-with_items t.entries c.sweep-count.new.entries h.full) in
    rw (stays, c.deref.ensures.0) (
      (swept es place (length es - (place + 1))).left,
      sweep_retreats s es place l t.distinct h few,
      h.left,
      sweep_known s es place l t.distinct h few,
    )
