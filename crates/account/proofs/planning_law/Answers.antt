use Rattle.account.proofs.Planning.{planning}
use Rattle.account.proofs.planning_law.Goals as goal

pub returns : goal.returns
returns g c =
    planning g.M.Measure.meaning
    (record {
      total = g.met.M.Measure.order_is_total;
      transitive = g.met.M.Measure.order_is_transitive;
      equal = g.met.M.Measure.each_at_most_the_other_is_equal;
      commutative = g.met.M.Measure.joining_is_commutative;
      associative = g.met.M.Measure.joining_is_associative;
      unit = g.met.M.Measure.joining_neutral_alters_nothing;
      parts = g.met.M.Measure.joined_is_at_least_each_part;
    })
