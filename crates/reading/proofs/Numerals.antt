-- Which texts are numbers.
use Rattle.std.proofs.lemmas.Grind.{common_steps}
use Rattle.std.proofs.Common.{◌≡◌, ℕ, ◌+◌, ◌-◌, ◌*◌, ◌^◌, ◌<◌, ◌≤◌, Bool, true, false, not, ◌&&◌, ltb, leb, List, [], ◌∷◌, length, get_or, drop, Some, None, decimal, refl, sym, ap, ◌∙◌, ⊎_elim, arith, rules}
use Rattle.std.specs.Bool.{then_some}
use Rattle.std.specs.Char.{is_ascii_digit}
use Rattle.std.specs.Str.{all_ascii_digits}
use Rattle.std.proofs.lemmas.List.{at_drop_more, at_drop_all}
use Rattle.std.proofs.lemmas.Bool.{and_cases, and_from, and_parts, cases_lt, leb-false, ne_eqb, ltb-true, and_left, and_right, cond-false, cond-true, le-leb, le-ltb, lt-leb, lt-ltb, not_from_false, not_from_true, not-true}
use Rattle.std.proofs.lemmas.Fmt.{decimal_digit, decimal_nonempty, decimal-digits_value, digits_decimal, first_decimal, digits_value-decimal}
use Rattle.std.proofs.lemmas.Str.Parse.{IsNumeralModel, numerals_by_fold}
use Rattle.reading.specs.Numbers.{is_number, leading_zero, number_up_to, value, value_from}

module _ (limit : ℕ) (ds : List ℕ) where
  none : (is_number ds && leb (value ds) limit) ≡ false → None ≡ number_up_to limit ds
  unfolding number_up_to
  none e = sym (cond-false (is_number ds && leb (value ds) limit) _ None e)

  none_if_no_number : is_number ds ≡ false → None ≡ number_up_to limit ds
  none_if_no_number e = none (and_left _ _ e)

  pub none_if_empty : length ds ≤ 0 → None ≡ number_up_to limit ds
  none_if_empty h = none_if_no_number (and_left _ _ (le-ltb 0 (length ds) h))

  pub none_if_zero : leading_zero ds ≡ true → None ≡ number_up_to limit ds
  none_if_zero e = none_if_no_number (and_right (ltb 0 (length ds)) _ (and_left _ _ (not_from_true _ e)))

  none_if_other : all_ascii_digits ds ≡ false → None ≡ number_up_to limit ds
  none_if_other e = none_if_no_number (and_right (ltb 0 (length ds)) _ (and_right (not (leading_zero ds)) _ e))

  none_if_large : limit < value ds → None ≡ number_up_to limit ds
  none_if_large h = none (and_right (is_number ds) _ (lt-leb (value ds) limit h))

  number_is : is_number ds ≡ true → value ds ≤ limit → Some (value ds) ≡ number_up_to limit ds
  unfolding number_up_to
  number_is is small = sym (cond-true (is_number ds && leb (value ds) limit) _ None (and_from _ _ is (le-leb (value ds) limit small)))

-- what is written of a number is read as that number, and only that is
own : IsNumeralModel (λ (ds : List ℕ). all_ascii_digits ds ≡ true) value
own = numerals_by_fold _ (search rules) value_from (search rules)

-- more digits write no less
value_rises : (n : ℕ) (cs : List ℕ) → n ≤ value_from n cs
value_rises n [] = omega arith
value_rises n (c ∷ cs) = omega (arith, value_rises (10 * n + (c - 48)) cs)

not_some : (t : Bool) (n : ℕ) → None ≡ then_some t n → t ≡ false
not_some true n e = grind (arith, common_steps)
not_some false n e = refl

-- n is what the digits before place i write, and those from there on are all that tell whether a text is a number
module _ (limit : ℕ) (ds : List ℕ) (n i : ℕ) (digits : all_ascii_digits ds ≡ all_ascii_digits (drop i ds)) (sum : value ds ≡ value_from n (drop i ds)) where
  -- at a byte that is no digit, or that makes it too large, there is no number
  pub none_at : i < length ds → None ≡ then_some (is_ascii_digit (get_or ds i 0) && leb (10 * n + (get_or ds i 0 - 48)) limit) (10 * n + (get_or ds i 0 - 48)) → None ≡ number_up_to limit ds
  none_at l e =
      ⊎_elim
      (λ (other : is_ascii_digit (get_or ds i 0) ≡ false). none_if_other limit ds (digits ∙ at_drop_more all_ascii_digits ds i 0 l ∙ and_left _ _ other))
      (λ (large : leb (10 * n + (get_or ds i 0 - 48)) limit ≡ false).
      none_if_large limit ds (omega (arith, sum ∙ at_drop_more (value_from n) ds i 0 l, value_rises (10 * n + (get_or ds i 0 - 48)) (drop (i + 1) ds), leb-false _ limit large))) (and_cases _ _ (not_some _ _ e))

  -- at the end it is n
  pub number_at : length ds ≤ i → 0 < length ds → leading_zero ds ≡ false → n ≤ limit → Some n ≡ number_up_to limit ds
  number_at done some plain small =
      let is : value ds ≡ n = sum ∙ at_drop_all (value_from n) ds i done in
      ap Some (sym is)
      ∙ number_is limit ds (and_from _ _ (lt-ltb 0 (length ds) some) (and_from _ _ (not_from_false _ plain) (digits ∙ at_drop_all all_ascii_digits ds i done)))
      (omega (arith, is, small))

plain_decimal : (n : ℕ) → n < 2 ^ 64 → leading_zero (decimal n) ≡ false
plain_decimal n h =
    ⊎_elim
    (λ (zero : n < 1).
    let e : decimal n ≡ (48 + n) ∷ [] = decimal_digit n (omega arith) in
    and_left _ _ (le-ltb 1 (length (decimal n)) (omega (arith, ap length e))))
    (λ (some : 1 ≤ n). and_right (ltb 1 (length (decimal n))) _ (ne_eqb (get_or (decimal n) 0 0) 48 (λ e. omega (arith, first_decimal n (omega arith) h))))
    (cases_lt n 1)

pub reads_decimal : (limit n : ℕ) → n ≤ limit → n < 2 ^ 64 → number_up_to limit (decimal n) ≡ Some n
reads_decimal limit n le h =
    let is : is_number (decimal n) ≡ true =
    and_from _ _ (lt-ltb 0 (length (decimal n)) (decimal_nonempty n h)) (and_from _ _ (not_from_false _ (plain_decimal n h)) (digits_decimal own n h))
    in
    sym (number_is limit (decimal n) is (omega (arith, digits_value-decimal own n h)))
    ∙ ap Some (digits_value-decimal own n h)

-- a text that has no leading zero and begins with a zero is that zero
alone : (ds : List ℕ) → 0 < length ds → leading_zero ds ≡ false → get_or ds 0 0 ≡ 48 → length ds ≡ 1
alone ds some plain first = grind (arith, common_steps)

-- a text that is a number is the decimal of its value
decimal_from_number : (ds : List ℕ) → is_number ds ≡ true → value ds < 2 ^ 64 → ds ≡ decimal (value ds)
decimal_from_number ds is small =
    let a = and_parts (ltb 0 (length ds)) _ is in
    let b = and_parts (not (leading_zero ds)) _ a.1 in
    let some : 0 < length ds = ltb-true 0 (length ds) a.0 in
    sym (decimal-digits_value own ds b.1 some (alone ds some (not-true _ b.0)) small)

pub decimal_from_read : (limit n : ℕ) (ds : List ℕ) → limit < 2 ^ 64 → number_up_to limit ds ≡ Some n → (ds ≡ decimal n) × (n ≤ limit)
unfolding number_up_to
decimal_from_read limit n ds small e = grind (arith, common_steps, decimal_from_number)
