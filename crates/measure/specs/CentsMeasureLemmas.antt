use Rattle.std.specs.Prelude.{ℕ}
use Rattle.measure.specs.declared.cents.Cents.{Cents}

unfoldable pub of_sum : ℕ → Cents
of_sum n = record { sum = n }
