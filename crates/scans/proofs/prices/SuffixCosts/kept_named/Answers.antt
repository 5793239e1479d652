use Rattle.std.proofs.lemmas.Grind.{common_steps}
use Rattle.std.proofs.Common.{◌+◌, Bool, ◌||◌, drop, sym, ap, ◌∙◌, ap₂, arith}
use Rattle.account.specs.Steps.{kept, named_in}
use Rattle.rules.specs.Conditions.{from_bytes}
use Rattle.sets.specs.Members.{members}
use Rattle.sets.specs.declared.decision_set.DecisionSet.{DecisionSet}
use Rattle.scans.proofs.Gathered.{gather_kept, skip_spared}
use Rattle.scans.proofs.prices.SuffixCosts.kept_named.Goals as goal
use Rattle.scans.proofs.prices.SuffixCosts.kept_named.Goals.{then-is_kept, else-is_kept}

pub loop-i-preserved : goal.loop-i-preserved
loop-i-preserved g c x =
    let m = g.M.Measure.meaning in
    let rs = c.args.rows.now in
    let p = from_bytes c.args.plan.now in
    let i = c.loop-i.i in
    let later = c.requires.costs (i + 1) _ (omega arith) (omega arith) in
    elim c.if-is_kept.branch [
      | then-is_kept w ↦
          gather_kept p rs i _ c.loop-i-test.true m c.args.best c.loop-i.before _ c.if-is_kept.before (members c.loop-i.set) (members c.if-is_kept.set) (members w.named.result)
          later (sym w.if-is_kept.ensures) (w.before-is ∙ w.join-before.ensures ∙ ap (m.joins c.loop-i.before) w.read.ensures) w.named.ensures (ap members w.set-is ∙ w.union-set.ensures) x
          ∙ c.loop-i.invariant x
      | else-is_kept w ↦
          ap₂ (λ (s : DecisionSet) b. members s x || named_in (kept m c.args.best b (drop (i + 1) rs) p) x) w.set-is w.before-is
          ∙ ap (λ (b : Bool). members c.loop-i.set x || b) (skip_spared p rs i _ c.loop-i-test.true m c.args.best c.loop-i.before _ x later (sym w.if-is_kept.ensures))
          ∙ c.loop-i.invariant x
    ]

pub returns : goal.returns
unfolding kept
returns g c = grind (arith, common_steps)
