-- What a set of bits has in it.
use Rattle.std.specs.Prelude.{ℕ, ◌-◌, ◌/◌, ◌%◌, ◌^◌, Bool, ◌&&◌, ◌==◌, nat_le, nat_lt}
use Rattle.sets.specs.declared.decision_set.DecisionSet.{DecisionSet}
use Rattle.sets.specs.declared.value_set.ValueSet.{ValueSet}

-- whether bit k of n is set: n / 2 ^ k is odd
unfoldable pub bit : ℕ → ℕ → Bool
bit n k = n / 2 ^ k % 2 == 1

-- whether a decision is in a set; none from 64 on is
unfoldable pub members : DecisionSet → ℕ → Bool
members s d = nat_lt d 64 && bit s.bits d

-- whether a value is in a set; only 1 to 16 can be
unfoldable pub values : ValueSet → ℕ → Bool
values s v = nat_le 1 v && nat_le v 16 && bit s.bits (v - 1)
