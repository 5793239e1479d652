-- What a measure means, whatever its costs are.
use Rattle.std.specs.Prelude.{Bool}
use Rattle.measure.specs.declared.price.Price.{Price}

-- the cost of nothing, a price as a cost, two costs as one, and whether one cost is at most another
pub record Meaning (C : Type 0) : Type 0 where
  pub neutral : C
  pub reads : Price → C
  pub joins : C → C → C
  pub at_most : C → C → Bool
