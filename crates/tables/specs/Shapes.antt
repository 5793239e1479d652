-- The shape of a rule whose decisions are known.
use Rattle.std.specs.Prelude.{Bool, true, ◌&&◌, List, [], ◌∷◌, nat_le}
use Rattle.rules.specs.Compose.{ascends}
use Rattle.rules.specs.Conditions.{condition}
use Rattle.rules.specs.Judging.{known_decisions}
use Rattle.rules.specs.declared.row.Row.{Row}

-- one to four pairs, in ascending order of decision, each of a decision below 64
unfoldable pub shaped : Row → Bool
shaped r = nat_le 1 r.count && nat_le r.count 4 && ascends (condition r) && known_decisions 64 (condition r)

-- every row has that shape
abbrev pub all_shaped : List Row → Bool
all_shaped [] = true
all_shaped (r ∷ rs) = shaped r && all_shaped rs
