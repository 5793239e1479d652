-- Every refusal by its number, its layer by that number, and the order of grounds.
use Rattle.std.specs.Prelude.{ℕ, Bool, true, false, cond, ◌&&◌, ◌||◌, Some, None, Ok, Err, Option, Result, ◌==◌, nat_le}
use Rattle.rules.specs.declared.refusal.Layer.{Layer}
use Rattle.rules.specs.declared.refusal.Layer.TheVariants.{Text, Rule, Planner}
use Rattle.rules.specs.declared.refusal.Refusal.{Refusal}
use Rattle.rules.specs.declared.refusal.Refusal.TheVariants.{TooManyDecisions, SizeOutOfRange, PairCount, UnknownDecision, UnknownValue, NotAscending, CentsTooLarge, TableFull, NoSuchRule, BudgetTooLarge, ShortPlan, UnknownLine, MalformedField, FieldCount, DecisionAfterRule, BookTooLarge, ShortText}

-- each refusal's number
abbrev pub number_of : Refusal → ℕ
number_of TooManyDecisions = 1
number_of SizeOutOfRange = 2
number_of PairCount = 3
number_of UnknownDecision = 4
number_of UnknownValue = 5
number_of NotAscending = 6
number_of CentsTooLarge = 7
number_of TableFull = 8
number_of NoSuchRule = 9
number_of BudgetTooLarge = 10
number_of ShortPlan = 11
number_of UnknownLine = 12
number_of MalformedField = 13
number_of FieldCount = 14
number_of DecisionAfterRule = 15
number_of BookTooLarge = 16
number_of ShortText = 17

-- the layer of a number: 3, 6 and 7 are of rules, 12 to 17 of text, the others of the planner
abbrev pub layer_of : ℕ → Layer
layer_of n = cond (n == 3 || n == 6 || n == 7) Rule (cond (nat_le 12 n && nat_le n 17) Text Planner)

-- an answer where a test holds, else none
abbrev pub when : {X : Type 0} → Bool → X → Option X
when true x = Some x
when false x = None

-- a refusal as the answer of a call that has nothing else to say
abbrev pub as_result : {E : Type 0} → Option E → Result (Unit {0}) E
as_result (Some e) = Err e
as_result None = Ok tt

-- what a call leaves: the old, if it is refused
abbrev pub unless_refused : {X : Type 0} → Option Refusal → X → X → X
unless_refused (Some e) old new = old
unless_refused None old new = new
