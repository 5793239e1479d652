-- The law of books of bytes: what a book comes to is what the calls on a planner answer.
use Rattle.std.specs.Prelude.{◌≡◌, ℕ, List, [], ◌∷◌, ◌++◌, map, is_some, None, Some, Ok, Option}
use Rattle.std.specs.Option.{option_map, option_map_or}
use Rattle.measure.specs.Meaning.{Meaning}
use Rattle.measure.specs.Supplied.{cents}
use Rattle.measure.specs.declared.cents.Cents.{Cents}
use Rattle.rules.specs.Compose.{composed}
use Rattle.rules.specs.Conditions.{condition}
use Rattle.rules.specs.Judging.{open_refusal}
use Rattle.rules.specs.declared.decision.Decision.{Decision}
use Rattle.rules.specs.declared.row.Row.{Row}
use Rattle.rules.specs.declared.rule.Rule.{Rule}
use Rattle.account.specs.Accounts.{Account, fresh}
use Rattle.account.specs.Calls.{Answer, Call, add, after, answer, best, done, ran, reported, run}
use Rattle.account.specs.declared.state.State.{State}
use Rattle.engine.specs.Answered.{Planned, answered, is_settled}
use Rattle.engine.specs.Stated.{Layout, decisions_in, layout_in, row_in}

-- the row that composing makes of the parts of another
abbrev pub composing : Row → Row
composing r = composed r.kind (condition r) r.target r.price

-- the row of the rule that a record states
abbrev pub stated : List ℕ → Option Row
stated bytes = option_map composing (row_in bytes)

-- what calls answer, one after the other
abbrev pub answers : {C : Type 0} → Meaning C → Account C → List Call → List (Answer C)
answers m a [] = []
answers m a (c ∷ cs) = answer m a c ∷ answers m (after m a c) cs

-- a book states decisions and rules, and a planner opened over the decisions answers to an add for each rule, a run and a best with the steps, state, cost and plan that the book comes to
pub record Called (book : List ℕ) (budget : ℕ) (buffer : List ℕ) (p : Planned) : Type 0 where
  pub layout : Layout
  pub decisions : List Decision
  pub rules : List Rule
  pub state : State
  pub cost : Option Cents
  pub layout_is : layout_in book ≡ Some layout
  pub decisions_are : decisions_in layout.decisions ≡ Some decisions
  pub rules_are : map stated layout.records ≡ map (λ (r : Rule). Some r.row) rules
  pub opens : open_refusal decisions ≡ None
  pub answers_are : answers cents (fresh decisions) (map add rules ++ run budget ∷ best buffer ∷ []) ≡ map (λ (r : Rule). done) rules ++ ran p.outcome.steps state ∷ reported state cost p.plan ∷ []
  pub cost_is : p.outcome.cost ≡ option_map_or (λ c. c.sum) cost 0
  pub settled_is : p.outcome.settled ≡ is_settled state
  pub held_is : p.outcome.held ≡ is_some cost

-- a book with no fault comes to what the calls answer
abbrev pub AnswersAsCalls : List ℕ → ℕ → List ℕ → Type 0
AnswersAsCalls book budget buffer = (p : Planned) → answered book budget buffer ≡ Ok p → Called book budget buffer p
