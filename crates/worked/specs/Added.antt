-- The rules that calls on a planner add.
use Rattle.std.specs.Prelude.{List, [], ◌∷◌}
use Rattle.rules.specs.declared.row.Row.{Row}
use Rattle.account.specs.Calls.{Call, add}

-- the row of each rule that is added, in turn
abbrev pub rows_added : List Call → List Row
rows_added [] = []
rows_added (add r ∷ cs) = r.row ∷ rows_added cs
rows_added (_ ∷ cs) = rows_added cs
