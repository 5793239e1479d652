-- The planning law, from soundness, the step bound and the comparison of two books.
use Rattle.std.proofs.Common.{List, sym, ◌∙◌}
use Rattle.measure.specs.Meaning.{Meaning}
use Rattle.measure.proofs.Laws.{Laws}
use Rattle.rules.specs.declared.decision.Decision.{Decision}
use Rattle.account.specs.Accounts.{fresh}
use Rattle.account.specs.Calls.{Call, history}
use Rattle.account.specs.Law.{Planning, Kept}
use Rattle.account.proofs.Bound.{steps_bounded}
use Rattle.account.proofs.Histories.{fresh_sound, history_sound, history_decisions}
use Rattle.account.proofs.Reports.{best_is_lawful, exclusions_are_true, resting_needs_a_best, short_run_is_settled}
use Rattle.account.proofs.SameRules.{one_cost}
use Rattle.account.proofs.Sound.{Sound}

module _ {C : Type 0} (m : Meaning C) (laws : Laws m) (ds : List Decision) where
  -- every list of calls from an opening leaves a sound account
  sound_after : (cs : List Call) → Sound m (history m (fresh ds) cs)
  sound_after cs = history_sound m laws (fresh ds) cs (fresh_sound m ds)

  -- what is kept after any list of calls
  kept_after : (cs : List Call) → Kept m ds cs (history m (fresh ds) cs)
  kept_after cs =
      let a = history m (fresh ds) cs in
      let s = sound_after cs in
      record {
        best_is_lawful = best_is_lawful m a s ds (history_decisions m (fresh ds) cs);
        exclusions_are_true = exclusions_are_true m a s;
        resting_needs_a_best = resting_needs_a_best m a s;
        steps_are_bounded = steps_bounded m laws ds cs;
        short_run_is_settled = short_run_is_settled m a;
      }

pub planning : {C : Type 0} (m : Meaning C) → Laws m → Planning m
planning m laws ds accepted cs cs' =
    record {
      every_list = kept_after m laws ds cs;
      two_lists =
          λ same.
          one_cost m laws (history m (fresh ds) cs) (history m (fresh ds) cs') (sound_after m laws ds cs) (sound_after m laws ds cs')
          (history_decisions m (fresh ds) cs ∙ sym (history_decisions m (fresh ds) cs')) same;
    }
