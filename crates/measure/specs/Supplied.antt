-- The measures that are supplied, each by its four meanings.
use Rattle.std.specs.Prelude.{ℕ, ◌+◌, ◌-◌, ◌^◌, min, max, not, ◌&&◌, ◌||◌, nat_le}
use Rattle.measure.specs.Meaning.{Meaning}
use Rattle.measure.specs.declared.cents.Cents.{Cents}
use Rattle.measure.specs.declared.pair.Pair.{Pair}
use Rattle.measure.specs.declared.tier.Tier.{Tier}

-- the sum, which stops at the largest 64-bit number; never below a part, so that the laws hold of numbers beyond it too
abbrev pub capped : ℕ → ℕ → ℕ
capped a b = max (max a b) (min (a + b) (2 ^ 64 - 1))

-- cents: sums of cents
abbrev pub cents : Meaning Cents
cents =
    record {
      neutral = record { sum = 0 };
      reads = λ p. record { sum = p.cents };
      joins = λ a b. record { sum = capped a.sum b.sum };
      at_most = λ a b. nat_le a.sum b.sum;
    }

-- tier: the larger tier
abbrev pub tier : Meaning Tier
tier =
    record {
      neutral = record { level = 0 };
      reads = λ p. record { level = p.tier };
      joins = λ a b. record { level = max a.level b.level };
      at_most = λ a b. nat_le a.level b.level;
    }

-- a pair: both sides read and joined; the first sides compared, and where those are equal the second
abbrev pub pair_of : {A B : Type 0} → Meaning A → Meaning B → Meaning (Pair A B)
pair_of m n =
    record {
      neutral = record { first = m.neutral; second = n.neutral };
      reads = λ p. record { first = m.reads p; second = n.reads p };
      joins = λ a b. record { first = m.joins a.first b.first; second = n.joins a.second b.second };
      at_most = λ a b. not (m.at_most b.first a.first) || (m.at_most a.first b.first && n.at_most a.second b.second);
    }
