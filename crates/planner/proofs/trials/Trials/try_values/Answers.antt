use Rattle.std.proofs.lemmas.Grind.{common_steps}
use Rattle.std.proofs.Common.{◌≡◌, ◌+◌, ◌-◌, ◌<◌, length, set, ap, ◌∙◌, arith, length-set}
use Rattle.rules.specs.Conditions.{from_bytes}
use Rattle.tables.specs.Excluded.{exclusions_of}
use Rattle.planner.specs.Books.{book_of}
use Rattle.planner.specs.Trials.{tried_to}
use Rattle.planner.proofs.Trying.{tried_none, tried_at, but_choose, but_set}
use Rattle.planner.proofs.trials.Trials.try_values.Goals as goal

pub loop-v-init : goal.loop-v-init
loop-v-init g c = grind (arith, common_steps, tried_none)

pub loop-v-preserved : goal.loop-v-preserved
loop-v-preserved g c =
    let d = c.args.self.now.domain.decision in
    let v = c.loop-v.v in
    let inv = c.loop-v.invariant in
    let room : d < length c.loop-v.trial = omega arith in
    record {
      most = omega arith;
      wide = length-set c.loop-v.trial c.from.result v ∙ inv.wide;
      but = rw c.from.ensures (but_set c.loop-v.trial c.args.plan.now d v inv.but);
      tried =
          tried_at g.M.Measure.meaning (book_of c.args.self.now.book.now) c.args.self.now.best (from_bytes c.args.plan.now) (exclusions_of c.args.exclusions.now) d v (from_bytes (set c.loop-v.trial d v))
          (exclusions_of c.loop-v.exclusions) (exclusions_of c.try_value.new.exclusions) c.loop-v.auto.v (but_choose c.loop-v.trial c.args.plan.now d v room inv.but) inv.tried (rw c.from.ensures at c.try_value.ensures);
    }

pub returns-2 : goal.returns-2
returns-2 g c =
    let d = c.args.self.now.domain.decision in
    let v = c.loop-v.v in
    let inv = c.loop-v.invariant in
    let room : d < length c.loop-v.trial = omega arith in
    let last : v + 1 - 1 ≡ c.args.self.now.domain.size = omega arith in
    tried_at g.M.Measure.meaning (book_of c.args.self.now.book.now) c.args.self.now.best (from_bytes c.args.plan.now) (exclusions_of c.args.exclusions.now) d v (from_bytes (set c.loop-v.trial d v))
    (exclusions_of c.loop-v.exclusions) (exclusions_of c.try_value.new.exclusions) c.loop-v.auto.v (but_choose c.loop-v.trial c.args.plan.now d v room inv.but) inv.tried (rw c.from.ensures at c.try_value.ensures)
    ∙ ap (tried_to g.M.Measure.meaning (book_of c.args.self.now.book.now) c.args.self.now.best (from_bytes c.args.plan.now) (exclusions_of c.args.exclusions.now) d) last
