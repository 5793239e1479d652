-- What the shape of a table's rows tells.
use Rattle.std.proofs.lemmas.Grind.{common_steps}
use Rattle.std.proofs.Common.{◌≡◌, ℕ, ◌≤◌, true, ◌&&◌, ltb, leb, List, [], ◌∷◌, length, None, refl, arith}
use Rattle.std.proofs.lemmas.Bool.{and_from, and_parts, lt-ltb, ltb-true}
use Rattle.rules.proofs.Grounds.{when_none, option_or_none}
use Rattle.rules.specs.Compose.{ascends}
use Rattle.rules.specs.Conditions.{condition}
use Rattle.rules.specs.Judging.{known_decisions, row_refusal}
use Rattle.rules.specs.declared.decision.Decision.{Decision}
use Rattle.rules.specs.declared.literal.Literal.{Literal}
use Rattle.rules.specs.declared.row.Row.{Row}
use Rattle.rules.specs.declared.rule.Rule.{Rule}
use Rattle.scans.specs.Known.{Known}
use Rattle.tables.specs.Shapes.{shaped, all_shaped}

-- rows of that shape name decisions that there can be
pub known_from_shaped : (rs : List Row) → all_shaped rs ≡ true → Known rs
unfolding shaped
known_from_shaped [] h = tt
known_from_shaped (r ∷ rs) h =
    let (here, later) = and_parts (shaped r) (all_shaped rs) h in
    ((and_parts (leb 1 r.count && leb r.count 4 && ascends (condition r)) (known_decisions 64 (condition r)) here).1, known_from_shaped rs later)

-- pairs that name the first n decisions name the first 64
known_more : (n : ℕ) (ls : List Literal) → n ≤ 64 → known_decisions n ls ≡ true → known_decisions 64 ls ≡ true
known_more n [] l h = refl
known_more n (k ∷ ls) l h =
    let (here, later) = and_parts (ltb k.decision n) (known_decisions n ls) h in
    and_from (ltb k.decision 64) (known_decisions 64 ls) (lt-ltb k.decision 64 (omega (arith, ltb-true k.decision n here))) (known_more n ls l later)

-- an accepted rule has the shape of a table's rows
pub rule_shaped : (rule : Rule) (row : Row) (ds : List Decision) → row ≡ rule.row → length ds ≤ 64 → row_refusal ds row ≡ None → shaped row ≡ true
unfolding shaped
rule_shaped rule row ds e few h = grind (arith, common_steps, option_or_none, when_none, known_more)
