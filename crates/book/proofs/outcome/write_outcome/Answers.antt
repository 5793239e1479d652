use Rattle.std.proofs.Common.{◌≡◌, ℕ, ◌≤◌, List, length, Some, None, replicate, take, arith, ap, subst, ◌∙◌}
use Rattle.measure.specs.Supplied.{cents, pair_of, tier}
use Rattle.planner.specs.Planners.{account_of}
use Rattle.rendering.specs.Fills.{counted, filled}
use Rattle.rendering.specs.Outcomes.{told}
use Rattle.book.specs.Outcomes.{account_text}
use Rattle.book.specs.declared.outcome.TheConstants.{OUTCOME_ROOM}
use Rattle.book.proofs.Rooms.{bestless_short}
use Rattle.book.proofs.Telling.{reports}
use Rattle.book.proofs.outcome.write_outcome.Goals as goal

pub returns-in-Some : goal.returns-in-Some
returns-in-Some c =
    let text = reports (pair_of tier cents) (account_of c.args.planner.now) (replicate 64 0) c.best.new.buffer c.in_ok-state.state c.in_ok-state.cost (Some c.in-Some.cost) c.decisions.result.now c.in_ok-state.ensures.value c.in-Some.is c.decisions.ensures.value in
    record {
      value = c.write_best.ensures.value ∙ ap (λ (t : List ℕ). counted t c.args.buffer.now) text;
      after = c.write_best.ensures.after ∙ ap (λ (t : List ℕ). filled t c.args.buffer.now) text;
      short = subst (λ (t : List ℕ). length t ≤ OUTCOME_ROOM) text c.write_best.ensures.short;
    }

pub returns-in-None : goal.returns-in-None
returns-in-None c =
    let text = reports (pair_of tier cents) (account_of c.args.planner.now) (replicate 64 0) c.best.new.buffer c.in_ok-state.state c.in_ok-state.cost None c.decisions.result.now c.in_ok-state.ensures.value c.in-None.is c.decisions.ensures.value in
    let written : told c.new.result ≡ account_text (account_of c.args.planner.now) = c.new.ensures ∙ text in
    record {
      value = c.fill.ensures.value ∙ ap (λ (t : List ℕ). counted t c.args.buffer.now) written;
      after = c.fill.ensures.after ∙ ap (λ (t : List ℕ). filled t c.args.buffer.now) written;
      short = subst (λ (t : List ℕ). length t ≤ OUTCOME_ROOM) text (omega (arith, bestless_short c.in_ok-state.state (take (length c.decisions.result.now) c.best.new.buffer)));
    }
