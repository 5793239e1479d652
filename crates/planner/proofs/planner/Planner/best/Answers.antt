use Rattle.std.proofs.Common.{◌≡◌, length, refl, sym, ap, ap₂, ◌∙◌, arith, rules}
use Rattle.std.specs.Option.{option_map}
use Rattle.account.specs.Calls.{best, report, reported}
use Rattle.planner.specs.Bests.{best_of, cost_held}
use Rattle.planner.specs.Planners.{account_of}
use Rattle.planner.proofs.Called.{accepts, best_reported, long_buffer}
use Rattle.planner.proofs.planner.Planner.best.Goals as goal
use Rattle.planner.proofs.planner.Planner.best.Goals.{in-Some, in_default}

pub returns-clause-value : goal.returns-clause-value
returns-clause-value g c =
    let m = g.M.Measure.meaning in
    let a = account_of c.args.self.now in
    let same = ap length c.decisions-count.ensures.value in
    let buffer = c.args.buffer.now in
    elim c.match-self.branch [
      | in-Some w ↦
          (let full : length w.in-Some.best.plan ≡ 64 = search rules in
          ap₂ (reported a.state) (c.best_cost.ensures ∙ ap (λ o. cost_held (option_map best_of o)) w.in-Some.is) w.buffer-is
          ∙ best_reported m a (length c.decisions-count.result.now) w.in-Some.best.plan buffer w.copy_from_slice.new.self (best_of w.in-Some.best) same (omega (arith, c.decisions-count.ensures.few, full)) (omega arith)
          (ap (option_map best_of) w.in-Some.is) refl w.copy_from_slice.ensures.after)
      | in_default w ↦
          (let long = long_buffer (length a.book.decisions) (length buffer) (omega (arith, same, c.if-buffer-count.false)) in
          ap₂ (reported a.state) (c.best_cost.ensures ∙ ap (λ o. cost_held (option_map best_of o)) w.in_default.is) w.buffer-is
          ∙ ap (report a.state (length a.book.decisions) buffer) (sym (ap (option_map best_of) w.in_default.is)) ∙ (accepts m a (best buffer) long).0)
    ]
