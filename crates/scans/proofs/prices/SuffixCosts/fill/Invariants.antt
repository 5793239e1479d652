use Rattle.std.proofs.Common.{◌≡◌, ◌++◌, length, drop}
use Rattle.rules.specs.Conditions.{from_bytes}
use Rattle.rules.specs.Plans.{cost}
use Rattle.scans.specs.Suffixes.{Suffixes}
use Rattle.scans.proofs.prices.SuffixCosts.fill.Given as goal

abbrev pub invariant-loop-i : goal.invariant-loop-i
invariant-loop-i g l =
    let m = g.M.Measure.meaning in
    let p = from_bytes l.plan in
    let n = length l.i-iterator.iter.iter.rest.now in
    record {
      from_none : l.i-iterator.iter.count ≡ 0;
      split : l.rows ≡ l.i-iterator.iter.iter.rest.now ++ drop n l.rows;
      places : Suffixes m l.rows p l.self.after n;
      total : l.cost ≡ cost m (drop n l.rows) p;
    }
