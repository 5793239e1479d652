-- The laws of a measure as one record, for lemmas that are proved once for every measure.
use Rattle.std.proofs.Common.{◌≡◌, true, ◌⊎◌}
use Rattle.measure.specs.Meaning.{Meaning}

pub record Laws {C : Type 0} (m : Meaning C) : Type 0 where
  pub total : (a b : C) → (m.at_most a b ≡ true) ⊎ (m.at_most b a ≡ true)
  pub transitive : (a b c : C) → m.at_most a b ≡ true → m.at_most b c ≡ true → m.at_most a c ≡ true
  pub equal : (a b : C) → m.at_most a b ≡ true → m.at_most b a ≡ true → a ≡ b
  pub commutative : (a b : C) → m.joins a b ≡ m.joins b a
  pub associative : (a b c : C) → m.joins (m.joins a b) c ≡ m.joins a (m.joins b c)
  pub unit : (a : C) → m.joins a m.neutral ≡ a
  pub parts : (a b : C) → (m.at_most a (m.joins a b) ≡ true) × (m.at_most b (m.joins a b) ≡ true)
