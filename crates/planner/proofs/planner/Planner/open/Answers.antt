use Rattle.std.proofs.Common.{ℕ, sym, refl, ap, ◌∙◌}
use mathlib.Core.Path.{fun_ext}
use Rattle.account.proofs.Planning.{planning}
use Rattle.account.specs.Accounts.{fresh}
use Rattle.measure.proofs.Laws.{Laws}
use Rattle.rules.proofs.Grounds.{accepted_none}
use Rattle.rules.specs.Judging.{open_refusal}
use Rattle.rules.specs.Refusals.{unless_refused}
use Rattle.tables.proofs.Entering.{zeros}
use Rattle.planner.specs.Books.{over_decisions}
use Rattle.planner.specs.Planners.{account_of}
use Rattle.planner.proofs.Called.{parts_same}
use Rattle.planner.proofs.planner.Planner.open.Given.{Over}
use Rattle.planner.proofs.planner.Planner.open.Goals as goal

-- the laws of the measure that the planner is over
laws : (g : Over) → Laws g.M.Measure.meaning
laws g =
    record {
      total = g.met.M.Measure.order_is_total;
      transitive = g.met.M.Measure.order_is_transitive;
      equal = g.met.M.Measure.each_at_most_the_other_is_equal;
      commutative = g.met.M.Measure.joining_is_commutative;
      associative = g.met.M.Measure.joining_is_associative;
      unit = g.met.M.Measure.joining_neutral_alters_nothing;
      parts = g.met.M.Measure.joined_is_at_least_each_part;
    }

pub returns : goal.returns
returns g c =
    let ds = c.args.decisions.now in
    let a = account_of c.args.self.now in
    let none = accepted_none (open_refusal ds) _ (sym c.in_ok-open.ensures.value) in
    let opened = c.in_ok-open.ensures.after ∙ ap (λ o. unless_refused o a.book (over_decisions ds)) none in
    record {
      value = c.in_ok-open.ensures.value;
      after = parts_same _ (fresh ds) opened (fun_ext (λ (d : ℕ). zeros d)) c.clear.ensures c.clear-2.ensures refl refl ∙ ap (λ o. unless_refused o a (fresh ds)) (sym none);
      law = λ ok. planning g.M.Measure.meaning (laws g) ds ok;
    }
