-- The worked cases, each by computing.
use Rattle.std.proofs.Common.{refl}
use Rattle.account.specs.Changes.{added, withdrawn}
use Rattle.account.specs.Steps.{step, test, tested, kept, retreat, extend, conclude}
use Rattle.account.specs.Worked.{PlansShown, VerdictsShown, SearchesShown, ChangesShown, SmallestShown, PitfallsShown, AllShown}

plans_shown : PlansShown
unfolding step test tested kept retreat extend conclude added withdrawn
plans_shown =
    record {
      forbidden = refl;
      idle_chosen = refl;
      active_idle = refl;
      lawful = refl;
      priced = refl;
    }

verdicts_shown : VerdictsShown
verdicts_shown =
    record {
      costs = refl;
      not_active = refl;
      not_chosen = refl;
      out_of_range = refl;
      decision_first = refl;
      forbidden = refl;
      second_met = refl;
      both_met = refl;
      further_byte = refl;
      byte_less = refl;
    }

searches_shown : SearchesShown
unfolding step test tested kept retreat extend conclude added withdrawn
searches_shown =
    record {
      fifteen_steps = refl;
      no_more_steps = refl;
      fifteen_best = refl;
      fourteen_steps = refl;
      fourteen_best = refl;
      tier_steps = refl;
      tier_best = refl;
    }

changes_shown : ChangesShown
unfolding step test tested kept retreat extend conclude added withdrawn
changes_shown =
    record {
      unused_steps = refl;
      unused_best = refl;
      used_steps = refl;
      used_best = refl;
      cheaper_steps = refl;
      cheaper_best = refl;
    }

smallest_shown : SmallestShown
unfolding step test tested kept retreat extend conclude added withdrawn
smallest_shown =
    record {
      nothing_steps = refl;
      nothing_best = refl;
      hopeless_steps = refl;
      hopeless_best = refl;
    }

pitfalls_shown : PitfallsShown
unfolding step test tested kept retreat extend conclude added withdrawn
pitfalls_shown =
    record {
      circle_unlawful = refl;
      circle_steps = refl;
      circle_best = refl;
      trap_steps = refl;
      trap_best = refl;
      clash_exclusion = refl;
      clash_steps = refl;
      clash_best = refl;
      orphan_steps = refl;
      orphan_best = refl;
      choice_best = refl;
      choice_rests = refl;
      choice_exclusion = refl;
      choice_after = refl;
    }

pub all_shown : AllShown
all_shown = record { plans = plans_shown; verdicts = verdicts_shown; searches = searches_shown; changes = changes_shown; smallest = smallest_shown; pitfalls = pitfalls_shown }
