-- What loading a text does: its lines are read and carried out one by one.
use Rattle.std.specs.Prelude.{ℕ, Bool, true, false, cond, ◌||◌, List, [], ◌∷◌, ◌++◌, length, Ok, Err, Option, Result, nat_lt}
use Rattle.std.specs.Option.{option_map, option_or}
use Rattle.measure.specs.Meaning.{Meaning}
use Rattle.rules.specs.Compose.{compose_refusal, composed}
use Rattle.rules.specs.Judging.{open_refusal}
use Rattle.rules.specs.declared.refusal.Refusal.{Refusal}
use Rattle.rules.specs.declared.refusal.Refusal.TheVariants.{BookTooLarge}
use Rattle.account.specs.Accounts.{Account, fresh}
use Rattle.account.specs.Calls.{add_refusal}
use Rattle.account.specs.Changes.{added}
use Rattle.statements.specs.Lines.{TextLine, lines_of}
use Rattle.statements.specs.Statements.{Stated, decides, fault, read_line, rules, then, unless}
use Rattle.statements.specs.declared.fault.Fault.{Fault}

-- whether a statement is a rule
abbrev pub is_rule : Stated → Bool
is_rule (decides d) = false
is_rule (rules k ps target price) = true

-- why a planner refuses what a line states: as open over the decisions so far, or as compose and then add
abbrev pub statement_refusal : {C : Type 0} → Account C → Stated → Option Refusal
statement_refusal a (decides d) = open_refusal (a.book.decisions ++ d ∷ [])
statement_refusal a (rules k ps target price) = option_or (compose_refusal k ps price) (add_refusal a (composed k ps target price))

-- what a planner is after what a line states: opened over one decision more, or with one rule more
abbrev pub carried : {C : Type 0} → Meaning C → Account C → Stated → Account C
carried m a (decides d) = fresh (a.book.decisions ++ d ∷ [])
carried m a (rules k ps target price) = added m a k (composed k ps target price)

-- what a line states, carried out, or refused at line n and column 1
abbrev pub obeyed : {C : Type 0} → Meaning C → ℕ → Account C → Stated → Result (Account C) Fault
obeyed m n a s = unless (option_map (λ r. fault r n 1) (statement_refusal a s)) (Ok (carried m a s))

-- lines read and carried out one after the other, up to the first fault; `began` is whether a rule line came before
unfoldable pub load_lines : {C : Type 0} → Meaning C → Bool → Account C → List TextLine → Result (Account C) Fault
load_lines m began a [] = Ok a
load_lines m began a (l ∷ ls) = then (read_line began l) (λ s. then (obeyed m l.number a s) (λ b. load_lines m (began || is_rule s) b ls))

-- what a text is loaded as, or its fault: too many bytes, else the first faulty line's
unfoldable pub loaded : {C : Type 0} → Meaning C → List ℕ → Result (Account C) Fault
loaded m text = cond (nat_lt 65536 (length text)) (Err (fault BookTooLarge 1 1)) (load_lines m false (fresh []) (lines_of text))

-- what a load leaves: a refused one leaves a planner over no decisions
abbrev pub left_by : {C : Type 0} → Result (Account C) Fault → Account C
left_by (Ok a) = a
left_by (Err e) = fresh []

-- what a load answers
abbrev pub verdict : {C : Type 0} → Result (Account C) Fault → Result (Unit {0}) Fault
verdict (Ok a) = Ok tt
verdict (Err e) = Err e
