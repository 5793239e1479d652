-- What a line states, or why and where it is refused.
use Rattle.std.specs.Prelude.{ℕ, ◌+◌, Bool, not, ◌&&◌, List, [], ◌∷◌, length, drop, Some, None, Ok, Err, Option, Result, nat_le, slice_index_or}
use Rattle.std.specs.Option.{option_map, ok_or}
use Rattle.measure.specs.declared.price.Price.{Price}
use Rattle.reading.specs.Numbers.{number_up_to}
use Rattle.rules.specs.Compose.{free}
use Rattle.rules.specs.Refusals.{when}
use Rattle.rules.specs.declared.decision.Decision.{Decision}
use Rattle.rules.specs.declared.literal.Literal.{Literal}
use Rattle.rules.specs.declared.refusal.Refusal.{Refusal}
use Rattle.rules.specs.declared.refusal.Refusal.TheVariants.{PairCount, UnknownLine, MalformedField, FieldCount, DecisionAfterRule}
use Rattle.rules.specs.declared.row.Kind.{Kind}
use Rattle.rules.specs.declared.row.Kind.TheVariants.{Forbid, Activate, Price as Priced}
use Rattle.statements.specs.Fields.{field_fault, fields_of}
use Rattle.statements.specs.Forms.{mark_of, pair_of}
use Rattle.statements.specs.Lines.{TextLine, is_decision, kind_of}
use Rattle.statements.specs.declared.fault.Fault.{Fault}
use Rattle.statements.specs.declared.line.LineKind.{LineKind}
use Rattle.statements.specs.declared.line.LineKind.TheVariants.{Decision as D, Forbid as F, Activate as A, Price as P}

-- what a line states: the next decision, or a rule by its parts
pub data Stated : Type 0 where
  decides : Decision → Stated
  rules : Kind → List Literal → ℕ → Price → Stated

-- a result, and what follows from it
abbrev pub then : {X Y E : Type 0} → Result X E → (X → Result Y E) → Result Y E
then (Ok x) f = f x
then (Err e) f = Err e

-- a result, unless there is an error before it
abbrev pub unless : {X E : Type 0} → Option E → Result X E → Result X E
unless (Some e) r = Err e
unless None r = r

-- a refusal at a line and column
abbrev pub fault : Refusal → ℕ → ℕ → Fault
fault r n c = record { refusal = r; line = n; column = c }

-- what a form reads from a field at line n and column c, or the fault of a field that is not of that form
abbrev pub formed : {X : Type 0} → ℕ → ℕ → Option X → Result X Fault
formed n c x = ok_or x (fault MalformedField n c)

-- the first of the fields, an empty one if there is none
abbrev pub front : List (List ℕ) → List ℕ
front fs = slice_index_or fs 0 []

-- the column of the second field, of fields that begin at column c
abbrev pub past : ℕ → List (List ℕ) → ℕ
past c [] = c
past c (f ∷ fs) = c + length f + 1

-- the pairs that the fields of line n are, from column c on
unfoldable pub read_pairs : ℕ → ℕ → List (List ℕ) → Result (List Literal) Fault
read_pairs n c [] = Ok []
read_pairs n c (f ∷ fs) = then (formed n c (pair_of f)) (λ l. then (read_pairs n (c + length f + 1) fs) (λ ls. Ok (l ∷ ls)))

-- a rule, unless its pairs are missing or more than four
abbrev pub ruled : ℕ → Kind → List Literal → ℕ → Price → Result Stated Fault
ruled n k ps target price = unless (when (not (nat_le 1 (length ps) && nat_le (length ps) 4)) (fault PairCount n 1)) (Ok (rules k ps target price))

-- a decision: its size, and its mark
unfoldable pub read_decision : ℕ → ℕ → List (List ℕ) → Result Stated Fault
read_decision n c fs =
    then (formed n c (number_up_to 255 (front fs))) (λ size.
    then (formed n (past c fs) (mark_of (front (drop 1 fs)))) (λ on.
    Ok (decides (record { size = size; on = on }))))

-- a forbid rule: its pairs
unfoldable pub read_forbid : ℕ → ℕ → List (List ℕ) → Result Stated Fault
read_forbid n c fs = then (read_pairs n c fs) (λ ps. ruled n Forbid ps 0 free)

-- an activate rule: its target, then its pairs
unfoldable pub read_activate : ℕ → ℕ → List (List ℕ) → Result Stated Fault
read_activate n c fs =
    then (formed n c (number_up_to 255 (front fs))) (λ target.
    then (read_pairs n (past c fs) (drop 1 fs)) (λ ps.
    ruled n Activate ps target free))

-- a price rule: tier and cents, then its pairs
unfoldable pub read_price : ℕ → ℕ → List (List ℕ) → Result Stated Fault
read_price n c fs =
    then (formed n c (number_up_to 255 (front fs))) (λ tier.
    then (formed n (past c fs) (number_up_to 4294967295 (front (drop 1 fs)))) (λ cents.
    then (read_pairs n (past (past c fs) (drop 1 fs)) (drop 1 (drop 1 fs))) (λ ps.
    ruled n Priced ps 0 (record { tier = tier; cents = cents }))))

-- what the fields of a line of a kind state; they begin at column 3
abbrev pub read_fields : LineKind → ℕ → List (List ℕ) → Result Stated Fault
read_fields D n fs = read_decision n 3 fs
read_fields F n fs = read_forbid n 3 fs
read_fields A n fs = read_activate n 3 fs
read_fields P n fs = read_price n 3 fs

-- what a line states, in the order of the checks; `began` is whether a rule line came before
abbrev pub read_as : Bool → TextLine → Option LineKind → Result Stated Fault
read_as began l None = Err (fault UnknownLine l.number 1)
read_as began l (Some k) =
    unless (when (began && is_decision k) (fault DecisionAfterRule l.number 1))
    (unless (option_map (fault FieldCount l.number) (field_fault k l.ended l.bytes)) (read_fields k l.number (fields_of l.bytes)))

unfoldable pub read_line : Bool → TextLine → Result Stated Fault
read_line began l = read_as began l (kind_of l.bytes)
