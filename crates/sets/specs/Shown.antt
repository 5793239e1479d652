-- Small sets by their bits, written out. All follow by computing from the definitions.
use Rattle.std.specs.Prelude.{◌≡◌, ℕ, true, false, ◌==◌, List, [], ◌∷◌, filter, Some, None}
use Rattle.std.specs.List.{range_with_len}
use Rattle.sets.specs.Members.{members, values}
use Rattle.sets.specs.Searches.{some_below, smallest_outside, count_outside}

-- the decisions in the set of these bits, looked for up to 65, two past the last
abbrev pub decisions : ℕ → List ℕ
decisions n = filter (members (record { bits = n })) (range_with_len 0 66)

-- the values in the set of these bits, likewise
abbrev pub values_of : ℕ → List ℕ
values_of n = filter (values (record { bits = n })) (range_with_len 0 18)

-- which bit stands for which decision and for which value
pub record BitsShown : Type 0 where
  pub no_decision : decisions 0 ≡ []
  pub two_decisions : decisions 5 ≡ 0 ∷ 2 ∷ []
  pub last_decision : decisions 9223372036854775808 ≡ 63 ∷ []
  pub no_value : values_of 0 ≡ []
  pub two_values : values_of 5 ≡ 1 ∷ 3 ∷ []
  pub last_value : values_of 32768 ≡ 16 ∷ []

-- what is sought up to a bound
pub record SearchesShown : Type 0 where
  pub some : some_below (λ d. d == 2) 3 ≡ true
  pub none_below : some_below (λ d. d == 3) 3 ≡ false
  pub smallest : smallest_outside (values (record { bits = 3 })) 5 ≡ Some 3
  pub first : smallest_outside (values (record { bits = 10 })) 3 ≡ Some 1
  pub at_bound : smallest_outside (values (record { bits = 3 })) 3 ≡ Some 3
  pub all_inside : smallest_outside (values (record { bits = 7 })) 3 ≡ None
  pub counted : count_outside (values (record { bits = 10 })) 5 ≡ 3
  pub none_counted : count_outside (values (record { bits = 7 })) 3 ≡ 0

-- all of them
pub record SetsShown : Type 0 where
  pub bits : BitsShown
  pub searches : SearchesShown
