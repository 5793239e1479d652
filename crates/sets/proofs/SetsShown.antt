-- Each of the sets, by computing.
use Rattle.std.proofs.Common.{refl}
use Rattle.sets.specs.Members.{bit, members, values}
use Rattle.sets.specs.Searches.{some_below, smallest_outside, count_outside}
use Rattle.sets.specs.Shown.{BitsShown, SearchesShown, SetsShown}

bits_shown : BitsShown
unfolding bit members values
bits_shown =
    record { no_decision = refl; two_decisions = refl; last_decision = refl; no_value = refl; two_values = refl; last_value = refl }

searches_shown : SearchesShown
unfolding bit values some_below smallest_outside count_outside
searches_shown =
    record { some = refl; none_below = refl; smallest = refl; first = refl; at_bound = refl; all_inside = refl; counted = refl; none_counted = refl }

pub sets_shown : SetsShown
sets_shown = record { bits = bits_shown; searches = searches_shown }
