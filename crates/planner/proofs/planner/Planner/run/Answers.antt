use Rattle.std.proofs.Common.{sym, refl, ◌∙◌, arith}
use Rattle.planner.specs.Planners.{account_of}
use Rattle.planner.proofs.Called.{open_more, not_open, ran_whole}
use Rattle.planner.proofs.planner.Planner.run.Goals as goal

pub loop-made-init : goal.loop-made-init
loop-made-init g c = (refl, refl)

pub loop-made-preserved : goal.loop-made-preserved
loop-made-preserved g c =
    let a = account_of c.args.self.now in
    let inv = c.loop-made.invariant in
    let (next, count) = open_more g.M.Measure.meaning a c.loop-made.made (account_of c.loop-made.self) inv.0 (sym c.if-not-is_open.ensures) inv.1 in
    (c.step.ensures ∙ next, count)

pub returns-then-not-is_open : goal.returns-then-not-is_open
returns-then-not-is_open g c =
    let m = g.M.Measure.meaning in
    let a = account_of c.args.self.now in
    let b = account_of c.loop-made.self in
    let inv = c.loop-made.invariant in
    let (same, count) = not_open m a c.loop-made.made c.args.budget b inv.0 (sym c.if-not-is_open.ensures) (omega arith) in
    let (told, left) = ran_whole m a c.args.budget c.loop-made.made b c.if-budget-gt-MOST_STEPS.false (same, inv.1 ∙ count) in
    record { value = told; after = left }
