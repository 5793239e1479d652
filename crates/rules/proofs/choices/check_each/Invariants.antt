use Rattle.std.proofs.Common.{◌≡◌, ℕ, ◌<◌, drop, None}
use Rattle.rules.specs.Conditions.{from_bytes}
use Rattle.rules.specs.Searches.{misfit_at}
use Rattle.sets.specs.Members.{members}
use Rattle.rules.proofs.choices.check_each.Given as goal

abbrev pub invariant-loop-number : goal.invariant-loop-number
invariant-loop-number l =
    let i = l.number-iterator.a.start in
    record {
      end : l.number-iterator.a.end ≡ 64;
      left : l.number-iterator.b.rest.now ≡ drop i l.decisions;
      before : (k : ℕ) → k < i → misfit_at l.decisions (members l.active) (from_bytes l.plan) k ≡ None;
    }
