-- Each snapshot, by computing.
use Rattle.std.proofs.Common.{refl}
use Rattle.account.specs.Changes.{added, withdrawn}
use Rattle.account.specs.Snapshots.{AnswersShown, ChangesHeld, SnapshotsShown, StepsShown}
use Rattle.account.specs.Steps.{conclude, extend, kept, retreat, step, test, tested}

steps_shown : StepsShown
unfolding step test tested kept retreat extend conclude added withdrawn
steps_shown =
    record {
      ranks = refl;
      rank_numbers = refl;
      rank_between = refl;
      supports = refl;
      first_rule = refl;
      dead_end = refl;
      followers = refl;
      tests = refl;
      tested_once = refl;
      kept_rules = refl;
      refused_stays = refl;
      settled = refl;
    }

changes_held : ChangesHeld
unfolding step test tested kept retreat extend conclude added withdrawn
changes_held =
    record {
      before = refl;
      forbid_unmet = refl;
      forbid_met = refl;
      price_unmet = refl;
      price_met = refl;
      activate_lawful = refl;
      activate_met = refl;
      activate_unlawful = refl;
      forbid_less = refl;
      forbid_gone = refl;
      price_less = refl;
      activate_less = refl;
      activate_gone = refl;
      activate_needed = refl;
      activate_twice = refl;
      reasons_go = refl;
    }

answers_shown : AnswersShown
unfolding step test tested kept retreat extend conclude added withdrawn
answers_shown =
    record {
      reason = refl;
      resting_reason = refl;
      no_reason = refl;
      free_values = refl;
      all_free = refl;
      counted_on = refl;
      counted_anew = refl;
      counted_from = refl;
    }

pub snapshots_shown : SnapshotsShown
snapshots_shown = record { steps = steps_shown; changes = changes_held; answers = answers_shown }
