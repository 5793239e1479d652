-- Numbers as they are written: decimal digits, with no leading zero.
use Rattle.std.specs.Prelude.{ℕ, ◌+◌, ◌-◌, ◌*◌, Bool, cond, not, ◌&&◌, List, [], ◌∷◌, length, Some, None, Option, ◌==◌, nat_le, nat_lt, slice_index}
use Rattle.std.specs.Str.{all_ascii_digits}

-- the number that digits write, after the digits of n
abbrev pub value_from : ℕ → List ℕ → ℕ
value_from n [] = n
value_from n (c ∷ cs) = value_from (10 * n + (c - 48)) cs

-- the number that digits write
abbrev pub value : List ℕ → ℕ
value ds = value_from 0 ds

-- whether a text begins with a zero and goes on
abbrev pub leading_zero : List ℕ → Bool
leading_zero ds = nat_lt 1 (length ds) && slice_index ds 0 == 48

-- whether a text is a number: some digits, with no leading zero
abbrev pub is_number : List ℕ → Bool
is_number ds = nat_lt 0 (length ds) && (not (leading_zero ds) && all_ascii_digits ds)

-- the number that a text is, if it is one and at most a limit
unfoldable pub number_up_to : ℕ → List ℕ → Option ℕ
number_up_to limit ds = cond (is_number ds && nat_le (value ds) limit) (Some (value ds)) None
