-- The bits of a number, at any width: what the operations on numbers do to each bit.
use Rattle.std.proofs.lemmas.Grind.{common_steps}
use Rattle.std.proofs.Common.{◌≡◌, ℕ, zero, suc, ◌+◌, ◌-◌, ◌*◌, ◌/◌, ◌%◌, ◌^◌, ◌<◌, min, max, Bool, ltb, true, false, cond, not, ◌&&◌, ◌||◌, eqb, ◌⊎◌, sym, refl, ap, ◌∙◌, inl, inr, le_of_suc-le-suc, not-suc-le-zero, lt_of_le_of_lt, mod-lt, mod-eq_of_lt, add_comm, pow-suc, one-add, arith, pow_pos, shr-shr}
use mathlib.Core.Path.{fun_ext}
use native.Mathlib.Nat.{mod-one}
use lib.Bits.{bit_and, bit_or, and_le_l, and_mask}
use lib.Count.{ones, ones_in, count_trailing_zeros, under, ones_cat, ones-ones}
use lib.Pow.{pow-lt, mod-pow-add}
use Rattle.std.proofs.lemmas.Bool.{cases_eq, cases_lt, eq-eqb, lt-ltb, le-ltb, ne_eqb}
use Rattle.std.proofs.lemmas.Nat.Bits.{bit_at_and, bit_at_or, bit_at-pow_same, bit_at-pow_other, bit_at_ones, bit_at_ones_above}
use Rattle.std.proofs.lemmas.Bool.Decides.{nat_tests}
use Rattle.sets.specs.Members.{bit}
use Rattle.sets.specs.Searches.{some_below, count_outside}
use Rattle.sets.proofs.BoolLaws.{or_failed}

-- 2 and more is no digit
not_digit : {A : Type 0} {n : ℕ} → suc (suc n) < 2 → A
not_digit h = absurd (not-suc-le-zero (le_of_suc-le-suc (le_of_suc-le-suc h)))

-- a digit is 0 or 1
digit_cases : (n : ℕ) → n < 2 → (n ≡ 0) ⊎ (n ≡ 1)
digit_cases zero h = inl refl
digit_cases (suc zero) h = inr refl
digit_cases (suc (suc n)) h = not_digit h

-- the lowest bit
pub bit_zero : (n : ℕ) → bit n 0 ≡ eqb (n % 2) 1
unfolding bit
bit_zero n = ap (λ (x : ℕ). eqb (x % 2) 1) (omega arith)

-- the bits above the lowest are those of the half
pub bit_suc : (n k : ℕ) → bit n (suc k) ≡ bit (n / 2) k
unfolding bit
bit_suc n k = ap (λ (x : ℕ). eqb (x % 2) 1) (ap (λ (x : ℕ). n / 2 ^ x) (sym (one-add k)) ∙ sym (shr-shr n 1 k))

-- a bit read off a digit
pub bit_digit : (n k d : ℕ) → n / 2 ^ k % 2 ≡ d → bit n k ≡ eqb d 1
unfolding bit
bit_digit n k d e = ap (λ (x : ℕ). eqb x 1) e

-- the test `n >> k & 1 == 1`
pub bit_test : (n k : ℕ) → eqb (bit_and (n / 2 ^ k) 1) 1 ≡ bit n k
unfolding bit
bit_test n k = ap (λ (x : ℕ). eqb x 1) (and_mask (n / 2 ^ k) 1)

-- `|` and `&` on two digits
or_digits : (x y : ℕ) → x < 2 → y < 2 → eqb (max x y) 1 ≡ (eqb x 1 || eqb y 1)
or_digits x y hx hy = grind (arith, nat_tests)

and_digits : (x y : ℕ) → x < 2 → y < 2 → eqb (min x y) 1 ≡ (eqb x 1 && eqb y 1)
and_digits x y hx hy = grind (arith, nat_tests)

-- a bit of `a | b`
pub bit_or_lem : (a b k : ℕ) → bit (bit_or a b) k ≡ (bit a k || bit b k)
unfolding bit
bit_or_lem a b k = ap (λ (x : ℕ). eqb x 1) (bit_at_or a b k) ∙ or_digits (a / 2 ^ k % 2) (b / 2 ^ k % 2) (omega arith) (omega arith)

-- a bit of `a & b`
pub bit_and_lem : (a b k : ℕ) → bit (bit_and a b) k ≡ (bit a k && bit b k)
unfolding bit
bit_and_lem a b k = ap (λ (x : ℕ). eqb x 1) (bit_at_and a b k) ∙ and_digits (a / 2 ^ k % 2) (b / 2 ^ k % 2) (omega arith) (omega arith)

-- zero has no bit
pub bit_of_zero : (k : ℕ) → bit 0 k ≡ false
bit_of_zero k = bit_digit 0 k 0 (omega arith)

-- a bit of `1 << d`
pub bit_single : (d k : ℕ) → bit (2 ^ d) k ≡ eqb k d
unfolding bit
bit_single d k =
    elim (cases_eq k d) [
      | inl e ↦ rw e (ap (λ (x : ℕ). eqb x 1) (bit_at-pow_same d) ∙ sym (eq-eqb d d refl))
      | inr ne ↦ ap (λ (x : ℕ). eqb x 1) (bit_at-pow_other d k ne) ∙ sym (ne_eqb k d ne)
    ]

-- a bit of `!n` at a width
pub bit_complement : (w n k : ℕ) → n < 2 ^ w → k < w → bit (2 ^ w - 1 - n) k ≡ not (bit n k)
bit_complement zero n k h l = absurd (not-suc-le-zero l)
bit_complement (suc w) n zero h l = grind (arith, common_steps, bit_zero, not_digit)
bit_complement (suc w) n (suc k) h l = grind (arith, common_steps, bit_complement w (n / 2) k (omega (arith, pow-suc 2 w)) (le_of_suc-le-suc l), bit_suc)

-- a bit of `n & !(1 << d)` at a width
pub bit_remove : (w n d k : ℕ) → d < w → k < w → bit (bit_and n (2 ^ w - 1 - 2 ^ d)) k ≡ (bit n k && not (eqb k d))
bit_remove w n d k hd hk =
    bit_and_lem n (2 ^ w - 1 - 2 ^ d) k
    ∙ ap (λ (b : Bool). bit n k && b) (bit_complement w (2 ^ d) k (pow-lt hd) hk ∙ ap not (bit_single d k))

-- a bit of a number whose first n bits are set
pub bit_ones : (n k : ℕ) → bit (2 ^ n - 1) k ≡ ltb k n
unfolding bit
bit_ones n k =
    elim (cases_lt k n) [
      | inl h ↦ ap (λ (x : ℕ). eqb x 1) (bit_at_ones n k h) ∙ sym (lt-ltb k n h)
      | inr h ↦ ap (λ (x : ℕ). eqb x 1) (bit_at_ones_above n k h) ∙ sym (le-ltb k n h)
    ]

-- one more low digit
low_more : (n m : ℕ) → n % 2 ^ suc m ≡ n / 2 ^ m % 2 * 2 ^ m + n % 2 ^ m
low_more n m = ap (λ (x : ℕ). n % 2 ^ x) (sym (one-add m)) ∙ mod-pow-add n 1 m

-- the low digits of a number are not all 0 where some low bit is set
pub some_low_bit : (w n : ℕ) → some_below (bit n) w ≡ not (eqb (n % 2 ^ w) 0)
unfolding some_below
some_low_bit zero n = ap (λ (x : ℕ). not (eqb x 0)) (sym (mod-one n))
some_low_bit (suc w) n = grind (arith, common_steps, some_low_bit w n, bit_digit, low_more, or_failed, not_digit)

-- a number of some width is not 0 where some bit below the width is set
pub some_bit : (w n : ℕ) → n < 2 ^ w → some_below (bit n) w ≡ not (eqb n 0)
some_bit w n h = some_low_bit w n ∙ ap (λ (x : ℕ). not (eqb x 0)) (mod-eq_of_lt h)

-- `a & b` is not 0 where some bit is set in both
pub common_bit : (w a b : ℕ) → a < 2 ^ w → some_below (λ k. bit a k && bit b k) w ≡ not (eqb (bit_and a b) 0)
common_bit w a b h =
    ap (λ (t : ℕ → Bool). some_below t w) (sym (fun_ext (bit_and_lem a b)))
    ∙ some_bit w (bit_and a b) (lt_of_le_of_lt (and_le_l a b) h)

-- below the first set bit no bit is set
pub bit_before_first : (w n k : ℕ) → k < count_trailing_zeros w n → bit n k ≡ false
unfolding count_trailing_zeros
bit_before_first zero n k h = absurd (not-suc-le-zero h)
bit_before_first (suc w) n k h = at k (digit_cases (n % 2) (omega arith)) h (bit_before_first w (n / 2))
  where
    -- by the lowest digit
    at : (k : ℕ) → (n % 2 ≡ 0) ⊎ (n % 2 ≡ 1) → k < under (n % 2) (count_trailing_zeros w (n / 2))
        → ((j : ℕ) → j < count_trailing_zeros w (n / 2) → bit (n / 2) j ≡ false) → bit n k ≡ false
    at k (inr e) h rest = absurd (not-suc-le-zero (rw e at h))
    at zero (inl e) h rest = bit_zero n ∙ ap (λ (x : ℕ). eqb x 1) e
    at (suc k) (inl e) h rest = bit_suc n k ∙ rest k (le_of_suc-le-suc (rw e at h))

-- the first set bit is set, where there is one below the width
pub bit_first : (w n : ℕ) → count_trailing_zeros w n < w → bit n (count_trailing_zeros w n) ≡ true
unfolding count_trailing_zeros
bit_first zero n h = absurd (not-suc-le-zero h)
bit_first (suc w) n h = at (digit_cases (n % 2) (omega arith)) h (bit_first w (n / 2))
  where
    -- by the lowest digit
    at : (n % 2 ≡ 0) ⊎ (n % 2 ≡ 1) → under (n % 2) (count_trailing_zeros w (n / 2)) < suc w
        → (count_trailing_zeros w (n / 2) < w → bit (n / 2) (count_trailing_zeros w (n / 2)) ≡ true)
        → bit n (under (n % 2) (count_trailing_zeros w (n / 2))) ≡ true
    at (inr e) h rest = rw e (bit_zero n ∙ ap (λ (x : ℕ). eqb x 1) e)
    at (inl e) h rest = rw e (bit_suc n (count_trailing_zeros w (n / 2)) ∙ rest (le_of_suc-le-suc (rw e at h)))

-- the count of ones of one digit
one_digit : (d : ℕ) → d < 2 → ones d ≡ cond (eqb d 1) 1 0
unfolding ones ones_in
one_digit zero h = refl
one_digit (suc zero) h = refl
one_digit (suc (suc d)) h = not_digit h

-- one more low bit adds itself to the count of ones
ones_more : (n m : ℕ) → ones (n % 2 ^ suc m) ≡ ones (n % 2 ^ m) + cond (bit n m) 1 0
ones_more n m =
    ap ones (low_more n m) ∙ ones_cat m (n / 2 ^ m % 2) (n % 2 ^ m) (mod-lt n (pow_pos m))
    ∙ add_comm (ones (n / 2 ^ m % 2)) (ones (n % 2 ^ m))
    ∙ ap (λ (x : ℕ). ones (n % 2 ^ m) + x) (one_digit (n / 2 ^ m % 2) (omega arith) ∙ ap (λ (b : Bool). cond b 1 0) (sym (bit_digit n m (n / 2 ^ m % 2) refl)))

-- the ones of the first bits, counted by a test that fails just where a bit is set
pub ones_outside : (t : ℕ → Bool) (n m : ℕ) → ((k : ℕ) → k < m → bit n k ≡ not (t (suc k))) → ones (n % 2 ^ m) ≡ count_outside t m
unfolding count_outside
ones_outside t n zero same = ap ones (mod-one n) ∙ ones-ones 0
ones_outside t n (suc m) same = grind (arith, common_steps, ones_outside t n m (λ k h. same k (omega arith)), ones_more)
