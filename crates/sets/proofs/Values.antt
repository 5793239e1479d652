-- Which values are in a set, by its bits.
use Rattle.std.proofs.lemmas.Grind.{common_steps}
use Rattle.std.proofs.Common.{◌≡◌, ℕ, zero, suc, ◌+◌, ◌-◌, ◌*◌, ◌/◌, ◌%◌, ◌^◌, ◌<◌, ◌≤◌, Bool, true, false, not, ◌&&◌, ◌||◌, eqb, ltb, leb, ◌⊎◌, sym, refl, ap, ◌∙◌, ap₂, inl, inr, not-suc-le-zero, arith}
use mathlib.Core.Path.{fun_ext}
use lib.Bits.{bit_and, bit_or, and_mask}
use lib.Count.{ones, count_trailing_zeros, trailing_le}
use lib.Dec.{eqb-suc-suc}
use Rattle.std.proofs.lemmas.Nat.{one_shl}
use Rattle.std.proofs.lemmas.Bool.{cases_lt, le-leb, lt-leb, leb-true, le-ltb, lt-ltb, ne_eqb, and_left, and_parts, and_right, and_from, or_from, not-true, not-false}
use Rattle.std.specs.Bool.{then_some}
use Rattle.sets.specs.declared.value_set.ValueSet.{ValueSet}
use Rattle.sets.specs.Members.{bit, values}
use Rattle.sets.specs.Searches.{smallest_outside, count_outside}
use Rattle.sets.proofs.BitLaws.{bit_test, bit_or_lem, bit_of_zero, bit_single, bit_complement, bit_remove, bit_before_first, bit_first, ones_outside}
use Rattle.sets.proofs.BoolLaws.{and_held}
use Rattle.sets.proofs.SearchLaws.{none_outside, first_outside}

-- value 1 + k is in a set where bit k is set, for k below 16
pub value_bit : (s : ValueSet) (k : ℕ) → k < 16 → values s (suc k) ≡ bit s.bits k
unfolding values
value_bit s k h = grind (arith, common_steps)

-- 0 is in no set
pub no_value_zero : (s : ValueSet) → values s 0 ≡ false
unfolding values
no_value_zero s = refl

-- no value above 16 is in a set
pub no_value_above : (s : ValueSet) (v : ℕ) → 16 < v → values s v ≡ false
unfolding values
no_value_above s v h = and_left (leb 1 v && leb v 16) (bit s.bits (v - 1)) (and_right (leb 1 v) (leb v 16) (lt-leb v 16 h))

-- nor what is no value at all
pub no_value : (s : ValueSet) (v : ℕ) → (leb 1 v && leb v 16) ≡ false → values s v ≡ false
unfolding values
no_value s v h = and_left (leb 1 v && leb v 16) (bit s.bits (v - 1)) h

-- what is a value is 1 to 16
pub value_range : (v : ℕ) → (leb 1 v && leb v 16) ≡ true → (1 ≤ v) × (v ≤ 16)
value_range v h = let (low, high) = and_parts (leb 1 v) (leb v 16) h in (leb-true 1 v low, leb-true v 16 high)

-- the test of the bit before a value
pub value_test : (s : ValueSet) (v : ℕ) → 1 ≤ v → v ≤ 16 → eqb (bit_and (s.bits / 2 ^ (v - 1)) 1) 1 ≡ values s v
value_test s v low high =
    bit_test s.bits (v - 1) ∙ sym (value_bit s (v - 1) (omega arith)) ∙ ap (values s) (omega arith)

-- the values of a set are told by its bits below 16
pub values_are : (s : ValueSet) (t : ℕ → Bool) → ((k : ℕ) → k < 16 → bit s.bits k ≡ t (suc k)) → t 0 ≡ false → ((v : ℕ) → 16 < v → t v ≡ false) → values s ≡ t
values_are s t within none above = fun_ext each
  where
    -- at 0, and above it
    each : (v : ℕ) → values s v ≡ t v
    each zero = no_value_zero s ∙ sym none
    each (suc k) = elim (cases_lt k 16) [ inl h ↦ value_bit s k h ∙ within k h | inr h ↦ no_value_above s (suc k) (omega arith) ∙ sym (above (suc k) (omega arith)) ]

-- the set with no bit
pub values_empty : values (record { bits = 0 }) ≡ (λ x. false)
values_empty = values_are (record { bits = 0 }) (λ x. false) (λ k h. bit_of_zero k) refl (λ v h. refl)

-- bit k is a value's own where the value is 1 + k
own_bit : (k v : ℕ) → 1 ≤ v → eqb k (v - 1) ≡ eqb (suc k) v
own_bit k zero h = absurd (not-suc-le-zero h)
own_bit k (suc v) h = ap (eqb k) (omega arith) ∙ sym (eqb-suc-suc k v)

-- the set with one more bit
pub values_with : (s : ValueSet) (v : ℕ) → 1 ≤ v → v ≤ 16
    → values (record { bits = bit_or s.bits (1 * 2 ^ (v - 1) % 2 ^ 16) }) ≡ (λ x. values s x || (eqb x v && (leb 1 v && leb v 16)))
values_with s v low high =
    values_are (record { bits = bit_or s.bits (1 * 2 ^ (v - 1) % 2 ^ 16) }) (λ x. values s x || (eqb x v && (leb 1 v && leb v 16)))
    (λ k h. bit_or_lem s.bits (1 * 2 ^ (v - 1) % 2 ^ 16) k
    ∙ ap₂ (λ (p q : Bool). p || q) (sym (value_bit s k h))
    (ap (λ (n : ℕ). bit n k) (one_shl (v - 1) 16 (omega arith)) ∙ bit_single (v - 1) k ∙ own_bit k v low
    ∙ sym (and_held (eqb (suc k) v) (leb 1 v && leb v 16) (and_from (leb 1 v) (leb v 16) (le-leb 1 v low) (le-leb v 16 high)))))
    (or_from (values s 0) (eqb 0 v && (leb 1 v && leb v 16)) (no_value_zero s)
    (and_left (eqb 0 v) (leb 1 v && leb v 16) (ne_eqb 0 v (λ (e : 0 ≡ v). omega arith))))
    (λ x h. or_from (values s x) (eqb x v && (leb 1 v && leb v 16)) (no_value_above s x h)
    (and_left (eqb x v) (leb 1 v && leb v 16) (ne_eqb x v (λ (e : x ≡ v). omega arith))))

-- the set with one bit removed
pub values_without : (s : ValueSet) (v : ℕ) → 1 ≤ v → v ≤ 16
    → values (record { bits = bit_and s.bits (2 ^ 16 - 1 - 1 * 2 ^ (v - 1) % 2 ^ 16) }) ≡ (λ x. values s x && not (eqb x v))
values_without s v low high =
    values_are (record { bits = bit_and s.bits (2 ^ 16 - 1 - 1 * 2 ^ (v - 1) % 2 ^ 16) }) (λ x. values s x && not (eqb x v))
    (λ k h. ap (λ (n : ℕ). bit (bit_and s.bits (2 ^ 16 - 1 - n)) k) (one_shl (v - 1) 16 (omega arith)) ∙ bit_remove 16 s.bits (v - 1) k (omega arith) h
    ∙ ap₂ (λ (p q : Bool). p && not q) (sym (value_bit s k h)) (own_bit k v low))
    (and_left (values s 0) (not (eqb 0 v)) (no_value_zero s))
    (λ x h. and_left (values s x) (not (eqb x v)) (no_value_above s x h))

-- to remove what no set has changes nothing
pub values_without_none : (s : ValueSet) (v : ℕ) → values s v ≡ false → values s ≡ (λ x. values s x && not (eqb x v))
values_without_none s v none = grind (arith, common_steps)

-- a bit of a set's complement is set where the value is not in the set
pub outside_bit : (s : ValueSet) (k : ℕ) → s.bits < 2 ^ 16 → k < 16 → bit (2 ^ 16 - 1 - s.bits) k ≡ not (values s (suc k))
outside_bit s k fits h = bit_complement 16 s.bits k fits h ∙ ap not (sym (value_bit s k h))

-- the values below the first bit of the complement are all in the set
pub inside_before_first : (s : ValueSet) (k : ℕ) → s.bits < 2 ^ 16 → k < count_trailing_zeros 16 (2 ^ 16 - 1 - s.bits) → values s (suc k) ≡ true
inside_before_first s k fits h =
    not-false (values s (suc k))
    (sym (outside_bit s k fits (omega (arith, trailing_le 16 (2 ^ 16 - 1 - s.bits)))) ∙ bit_before_first 16 (2 ^ 16 - 1 - s.bits) k h)

-- the first bit of the complement, below a bound, is the smallest value outside; past it, no value up to the bound is
pub smallest_by_first : (s : ValueSet) (n : ℕ) → s.bits < 2 ^ 16 → n ≤ 16
    → then_some (ltb (count_trailing_zeros 16 (2 ^ 16 - 1 - s.bits)) n) (count_trailing_zeros 16 (2 ^ 16 - 1 - s.bits) + 1) ≡ smallest_outside (values s) n
smallest_by_first s n fits top = at (cases_lt z n)
  where
    z : ℕ
    z = count_trailing_zeros 16 (2 ^ 16 - 1 - s.bits)

    at : (z < n) ⊎ (n ≤ z) → then_some (ltb z n) (z + 1) ≡ smallest_outside (values s) n
    at (inl h) =
        ap₂ then_some (lt-ltb z n h) (omega arith)
        ∙ sym (first_outside (values s) n z h (λ k l. inside_before_first s k fits l)
        (not-true (values s (suc z)) (sym (outside_bit s z fits (omega arith)) ∙ bit_first 16 (2 ^ 16 - 1 - s.bits) (omega arith))))
    at (inr h) = ap (λ (b : Bool). then_some b (z + 1)) (le-ltb z n h) ∙ sym (none_outside (values s) n (λ k l. inside_before_first s k fits (omega arith)))

-- the ones of the complement's first bits are the values outside
pub count_by_ones : (s : ValueSet) (n : ℕ) → s.bits < 2 ^ 16 → n ≤ 16 → ones (bit_and (2 ^ 16 - 1 - s.bits) (2 ^ n - 1)) ≡ count_outside (values s) n
count_by_ones s n fits top =
    ap ones (and_mask (2 ^ 16 - 1 - s.bits) n)
    ∙ ones_outside (values s) (2 ^ 16 - 1 - s.bits) n (λ k h. outside_bit s k fits (omega arith))
