-- The text of what a line can state.
use Rattle.std.specs.Prelude.{ℕ, ◌+◌, Bool, true, false, ◌&&◌, List, [], ◌∷◌, length, ◌==◌, nat_le}
use Rattle.measure.specs.declared.price.Price.{Price}
use Rattle.rules.specs.declared.literal.Literal.{Literal}
use Rattle.rules.specs.declared.row.Kind.{Kind}
use Rattle.rules.specs.declared.row.Kind.TheVariants.{Forbid, Activate, Price as Priced}
use Rattle.rendering.specs.Texts.{decision_line, parts_line}
use Rattle.statements.specs.Lines.{TextLine}
use Rattle.statements.specs.Statements.{Stated, decides, rules}

-- the text of a line that states this, without the byte that ends it
abbrev pub line_text : Stated → List ℕ
line_text (decides d) = decision_line d
line_text (rules k ps target price) = parts_line k ps target price

-- whether a decision is stated
abbrev pub is_decided : Stated → Bool
is_decided (decides d) = true
is_decided (rules k ps target price) = false

-- whether both numbers of a pair are at most 255
abbrev pub fitting_pair : Literal → Bool
fitting_pair l = nat_le l.decision 255 && nat_le l.value 255

-- whether all pairs are such
abbrev pub fitting_pairs : List Literal → Bool
fitting_pairs [] = true
fitting_pairs (l ∷ ls) = fitting_pair l && fitting_pairs ls

-- whether a target and a price fit a rule's kind: each in its limit, and 0 where the kind has none
abbrev pub fitting_head : Kind → ℕ → Price → Bool
fitting_head Forbid target price = target == 0 && (price.tier == 0 && price.cents == 0)
fitting_head Activate target price = nat_le target 255 && (price.tier == 0 && price.cents == 0)
fitting_head Priced target price = target == 0 && (nat_le price.tier 255 && nat_le price.cents 4294967295)

-- whether a line can state this: numbers in their limits, one to four pairs, no target and no price beyond the kind's own
abbrev pub fitting : Stated → Bool
fitting (decides d) = nat_le d.size 255
fitting (rules k ps target price) = (nat_le 1 (length ps) && nat_le (length ps) 4) && (fitting_pairs ps && fitting_head k target price)

-- whether lines can state all of these
abbrev pub all_fitting : List Stated → Bool
all_fitting [] = true
all_fitting (s ∷ ss) = fitting s && all_fitting ss

-- lines that are all ended, numbered from n
abbrev pub ended_lines : ℕ → List (List ℕ) → List TextLine
ended_lines n [] = []
ended_lines n (l ∷ ls) = record { bytes = l; number = n; ended = true } ∷ ended_lines (n + 1) ls

-- whether byte 10 ends each of these lines
abbrev pub all_ended : List TextLine → Bool
all_ended [] = true
all_ended (l ∷ ls) = l.ended && all_ended ls
