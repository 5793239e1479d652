-- The edges, each by computing.
use Rattle.std.proofs.Common.{refl}
use Rattle.account.specs.Changes.{added}
use Rattle.account.specs.Edges.{AskingsShown, ChangingsShown, ComposingsShown, EdgesShown, NewRuleShown, NumbersShown, OpeningsShown}

openings_shown : OpeningsShown
openings_shown = record { no_decision = refl; most_decisions = refl; decision_more = refl; smallest = refl; no_value = refl; value_more = refl }

composings_shown : ComposingsShown
composings_shown = record { no_pair = refl; one_pair = refl; most_pairs = refl; pair_more = refl; descending = refl; decision_twice = refl; most_cents = refl; cent_more = refl; no_price = refl }

changings_shown : ChangingsShown
unfolding added
changings_shown =
    record {
      known = refl;
      decision_more = refl;
      target_known = refl;
      target_more = refl;
      value_more = refl;
      value_zero = refl;
      last_place = refl;
      rule_more = refl;
      other_kind = refl;
      value_first = refl;
      last_rule = refl;
      place_more = refl;
      place_of_kind = refl;
    }

askings_shown : AskingsShown
unfolding added
askings_shown =
    record {
      last_rank = refl;
      rank_more = refl;
      no_step = refl;
      most_steps = refl;
      step_more = refl;
      full_plan = refl;
      byte_less = refl;
      last_value = refl;
      value_more = refl;
      value_zero = refl;
      decision_more = refl;
      last_decision = refl;
      decision_past = refl;
      judged_open = refl;
      judged_row = refl;
      judged_short = refl;
      judged_long = refl;
      judged_target = refl;
      judged_first = refl;
    }

new_rule_shown : NewRuleShown
new_rule_shown = record { kind = refl; condition_is = refl }

numbers_shown : NumbersShown
numbers_shown =
    record {
      too_many_decisions = (refl, refl);
      size_out_of_range = (refl, refl);
      pair_count = (refl, refl);
      unknown_decision = (refl, refl);
      unknown_value = (refl, refl);
      not_ascending = (refl, refl);
      cents_too_large = (refl, refl);
      table_full = (refl, refl);
      no_such_rule = (refl, refl);
      budget_too_large = (refl, refl);
      short_plan = (refl, refl);
      unknown_line = (refl, refl);
      malformed_field = (refl, refl);
      field_count = (refl, refl);
      decision_after_rule = (refl, refl);
      book_too_large = (refl, refl);
      short_text = (refl, refl);
    }

pub edges_shown : EdgesShown
edges_shown = record { openings = openings_shown; composings = composings_shown; changings = changings_shown; askings = askings_shown; new_rule = new_rule_shown; numbers = numbers_shown }
