-- The text of decisions, rules, faults and outcomes, byte by byte.
use Rattle.std.specs.Prelude.{ℕ, ◌+◌, Bool, true, false, cond, List, [], ◌∷◌, ◌++◌, map, Some, None, codes, decimal, Option, nat_lt}
use Rattle.measure.specs.declared.cents.Cents.{Cents}
use Rattle.measure.specs.declared.pair.Pair.{Pair}
use Rattle.measure.specs.declared.price.Price.{Price}
use Rattle.measure.specs.declared.tier.Tier.{Tier}
use Rattle.rules.specs.Conditions.{condition}
use Rattle.rules.specs.Refusals.{number_of, layer_of}
use Rattle.rules.specs.declared.decision.Decision.{Decision}
use Rattle.rules.specs.declared.literal.Literal.{Literal}
use Rattle.rules.specs.declared.refusal.Layer.{Layer}
use Rattle.rules.specs.declared.refusal.Layer.TheVariants.{Text, Rule, Planner}
use Rattle.rules.specs.declared.refusal.Refusal.{Refusal}
use Rattle.rules.specs.declared.row.Kind.{Kind}
use Rattle.rules.specs.declared.row.Kind.TheVariants.{Forbid, Activate, Price as Priced}
use Rattle.rules.specs.declared.row.Row.{Row}
use Rattle.account.specs.declared.state.State.{State}
use Rattle.account.specs.declared.state.State.TheVariants.{Open, Settled}

-- fields, a space in front of each
abbrev pub spaced : List (List ℕ) → List ℕ
spaced [] = []
spaced (f ∷ fs) = 32 ∷ (f ++ spaced fs)

-- lines, byte 10 behind each
abbrev pub ended : List (List ℕ) → List ℕ
ended [] = []
ended (l ∷ ls) = l ++ 10 ∷ ended ls

-- a pair, as 2=3
unfoldable pub pair_text : Literal → List ℕ
pair_text l = decimal l.decision ++ 61 ∷ decimal l.value

-- the word of a mark
abbrev pub mark_text : Bool → List ℕ
mark_text true = codes "on"
mark_text false = codes "off"

-- the first byte of a rule's line: F, A or P
abbrev pub letter : Kind → ℕ
letter Forbid = 70
letter Activate = 65
letter Priced = 80

-- what stands before a rule's pairs: of an activate rule its target, of a price rule its tier and cents
abbrev pub head_fields : Kind → ℕ → Price → List (List ℕ)
head_fields Forbid target price = []
head_fields Activate target price = decimal target ∷ []
head_fields Priced target price = decimal price.tier ∷ decimal price.cents ∷ []

-- the line of a decision, without the byte that ends it: D, its size and its mark
unfoldable pub decision_line : Decision → List ℕ
decision_line d = 68 ∷ spaced (decimal d.size ∷ mark_text d.on ∷ [])

-- the line of a rule's parts, without the byte that ends it
unfoldable pub parts_line : Kind → List Literal → ℕ → Price → List ℕ
parts_line k ps target price = letter k ∷ spaced (head_fields k target price ++ map pair_text ps)

-- the line of a rule
abbrev pub rule_line : Row → List ℕ
rule_line r = parts_line r.kind (condition r) r.target r.price

-- the text of a book: its decisions, then its rules
abbrev pub book_text : List Decision → List Row → List ℕ
book_text ds rs = ended (map decision_line ds ++ map rule_line rs)

-- the word of a layer
abbrev pub layer_text : Layer → List ℕ
layer_text Text = codes "text"
layer_text Rule = codes "rule"
layer_text Planner = codes "planner"

-- the line of a fault: its number, layer, line and column, as in `refused 13 text 4 3`
unfoldable pub fault_line : Refusal → ℕ → ℕ → List ℕ
fault_line r line column =
    codes "refused" ++ spaced (decimal (number_of r) ∷ layer_text (layer_of (number_of r)) ∷ decimal line ∷ decimal column ∷ [])

-- the text of a fault
abbrev pub fault_text : Refusal → ℕ → ℕ → List ℕ
fault_text r line column = ended (fault_line r line column ∷ [])

-- the outcome's first word: settled with a best, none if it is settled without one, else open
abbrev pub outcome_word : State → Bool → List ℕ
outcome_word Open best = codes "open"
outcome_word Settled true = codes "settled"
outcome_word Settled false = codes "none"

-- the fields of a cost: tier and cents
abbrev pub cost_fields : Pair Tier Cents → List (List ℕ)
cost_fields c = decimal c.first.level ∷ decimal c.second.sum ∷ []

-- the line of a choice: a decision and its value
unfoldable pub choice_line : ℕ → ℕ → List ℕ
choice_line d v = decimal d ++ spaced (decimal v ∷ [])

-- a line for each chosen decision, from decision d on; at byte 0 a decision is idle
abbrev pub choice_lines : ℕ → List ℕ → List (List ℕ)
choice_lines d [] = []
choice_lines d (v ∷ vs) = cond (nat_lt 0 v) (choice_line d v ∷ choice_lines (d + 1) vs) (choice_lines (d + 1) vs)

-- an outcome: its word, and if a best is held the cost beside it and the choices below
unfoldable pub outcome_text : State → Option (Pair Tier Cents) → List ℕ → List ℕ
outcome_text s None plan = ended (outcome_word s false ∷ [])
outcome_text s (Some c) plan = ended ((outcome_word s true ++ spaced (cost_fields c)) ∷ choice_lines 0 plan)
