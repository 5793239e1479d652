-- The laws of books as text: a book is read as the rules it states, load agrees with open and adds, and a written book loads as the same rules.
use Rattle.std.specs.Prelude.{◌≡◌, ℕ, ◌+◌, ◌≤◌, List, [], ◌∷◌, ◌++◌, map, length, None, Ok, Option, Result}
use Rattle.std.specs.Option.{option_map, option_or}
use Rattle.std.specs.List.{AllByRecursion}
use Rattle.measure.specs.Meaning.{Meaning}
use Rattle.rules.specs.Conditions.{condition}
use Rattle.rules.specs.Judging.{open_refusal}
use Rattle.rules.specs.Plans.{Book}
use Rattle.rules.specs.declared.decision.Decision.{Decision}
use Rattle.rules.specs.declared.literal.Literal.{Literal}
use Rattle.rules.specs.declared.row.Row.{Row}
use Rattle.rules.specs.declared.rule.Rule.{Rule}
use Rattle.account.specs.Accounts.{Account, fresh}
use Rattle.account.specs.Calls.{Call, add, after, history, refusal}
use Rattle.rendering.specs.Texts.{book_text}
use Rattle.statements.specs.Statements.{fault, unless}
use Rattle.statements.specs.declared.fault.Fault.{Fault}
use Rattle.book.specs.Loads.{loaded}

-- the text that states decisions, then rules
abbrev pub stated_by : List Decision → List Rule → List ℕ
stated_by ds rs = book_text ds (map (λ (r : Rule). r.row) rs)

-- the numbers of a decision and of a rule's pairs are bytes, as the code holds them
abbrev pub ByteSized : Decision → Type 0
ByteSized d = d.size ≤ 255

abbrev pub BytePaired : Rule → Type 0
BytePaired r = AllByRecursion (λ (l : Literal). (l.decision ≤ 255) × (l.value ≤ 255)) (condition r.row)

-- the rules of a book as they are written: forbid rules, activate rules, price rules, each in place order
abbrev pub rows_of : Book → List Row
rows_of b = b.forbids ++ (b.activates ++ b.prices)

module _ {C : Type 0} (m : Meaning C) where
  -- every one of these calls is accepted, one after the other
  abbrev pub Accepted : Account C → List Call → Type 0
  Accepted a [] = Unit {0}
  Accepted a (c ∷ cs) = (refusal a c ≡ None) × Accepted (after m a c) cs

  -- decisions opened one by one, with one line each from line n: the fault of the first that open refuses after those before it
  abbrev pub opened_from : ℕ → List Decision → List Decision → Option Fault
  opened_from n before [] = None
  opened_from n before (d ∷ ds) = option_or (option_map (λ r. fault r n 1) (open_refusal (before ++ d ∷ []))) (opened_from (n + 1) (before ++ d ∷ []) ds)

  -- rules added one by one, with one line each from line n: the account after them, or the fault of the first that add refuses
  abbrev pub added_from : ℕ → Account C → List Rule → Result (Account C) Fault
  added_from n a [] = Ok a
  added_from n a (r ∷ rs) = unless (option_map (λ e. fault e n 1) (refusal a (add r))) (added_from (n + 1) (after m a (add r)) rs)

  -- a text that is accepted states decisions and rules: it is their text, open accepts the decisions, then add each rule, and the account is what they leave
  pub record Stating (text : List ℕ) (a : Account C) : Type 0 where
    pub decisions : List Decision
    pub rules : List Rule
    pub text_is : text ≡ stated_by decisions rules
    pub opens : open_refusal decisions ≡ None
    pub adds : Accepted (fresh decisions) (map add rules)
    pub account_is : a ≡ history m (fresh decisions) (map add rules)

  -- a book is read as the rules it states
  abbrev pub ReadAsStated : List ℕ → Type 0
  ReadAsStated text = (a : Account C) → loaded m text ≡ Ok a → Stating text a

  -- load agrees with open and adds, refusals too
  abbrev pub AgreesWithCalls : List ℕ → Type 0
  AgreesWithCalls text =
      (ds : List Decision) (rs : List Rule) → text ≡ stated_by ds rs → length text ≤ 65536 → AllByRecursion ByteSized ds → AllByRecursion BytePaired rs
      → loaded m text ≡ unless (opened_from 1 [] ds) (added_from (length ds + 1) (fresh ds) rs)

  -- what is written of a planner, whatever was called on it, is loaded as the same decisions and rules in the same order
  abbrev pub LoadsBack : Type 0
  LoadsBack =
      (ds : List Decision) → open_refusal ds ≡ None → (calls : List Call)
      → let b = (history m (fresh ds) calls).book in (a : Account C) × (loaded m (book_text b.decisions (rows_of b)) ≡ Ok a) × (a.book ≡ b)
