-- What is sought among the numbers up to a bound.
use Rattle.std.specs.Prelude.{ℕ, zero, suc, ◌+◌, Bool, true, false, cond, ◌||◌, Some, None, Option}
use Rattle.std.specs.Option.{option_or}

-- whether a test holds of some number below a bound
unfoldable pub some_below : (ℕ → Bool) → ℕ → Bool
some_below t zero = false
some_below t (suc n) = some_below t n || t n

-- an answer where a test fails, else none
abbrev pub unless : {X : Type 0} → Bool → X → Option X
unless true x = None
unless false x = Some x

-- the smallest number from 1 to a bound of which a test fails
unfoldable pub smallest_outside : (ℕ → Bool) → ℕ → Option ℕ
smallest_outside t zero = None
smallest_outside t (suc n) = option_or (smallest_outside t n) (unless (t (suc n)) (suc n))

-- of how many numbers from 1 to a bound a test fails
unfoldable pub count_outside : (ℕ → Bool) → ℕ → ℕ
count_outside t zero = 0
count_outside t (suc n) = count_outside t n + cond (t (suc n)) 0 1
