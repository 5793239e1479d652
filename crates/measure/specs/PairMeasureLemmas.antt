use Rattle.std.specs.Prelude.{◌≡◌}
use Rattle.measure.specs.declared.pair.Pair.{Pair}

pub both : {A B : Type 0} (x y : Pair A B) → x.first ≡ y.first → x.second ≡ y.second → x ≡ y
both x y p q = λ i. record { first = p i; second = q i }
