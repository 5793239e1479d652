-- Rows whose pairs name decisions that a book can have.
use Rattle.std.specs.Prelude.{◌≡◌, true, List}
use Rattle.std.specs.List.{AllByRecursion}
use Rattle.rules.specs.Conditions.{condition}
use Rattle.rules.specs.Judging.{known_decisions}
use Rattle.rules.specs.declared.row.Row.{Row}

-- every pair of every row names one of the 64 decisions that there can be
abbrev pub Known : List Row → Type 0
Known rs = AllByRecursion (λ r. known_decisions 64 (condition r) ≡ true) rs
