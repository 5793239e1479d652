-- What a planner holds, as its calls show it.
use Rattle.std.specs.Prelude.{ℕ, zero, suc, Bool, true, false, cond, not, ◌&&◌, ◌||◌, List, [], ◌∷◌, None, Option, ◌==◌}
use Rattle.rules.specs.Conditions.{Plan}
use Rattle.rules.specs.Plans.{Book, Set}
use Rattle.rules.specs.declared.decision.Decision.{Decision}
use Rattle.account.specs.declared.state.State.{State}
use Rattle.account.specs.declared.state.State.TheVariants.{Open}

-- a choice on the trail: a decision, its value, and the decisions that made it active
pub record Entry : Type 0 where
  pub decision : ℕ
  pub value : ℕ
  pub support : Set

-- why a value is excluded: the decisions whose trail values rule it out, and whether it rests on the best
pub record Exclusion : Type 0 where
  pub reason : Set
  pub rests : Bool

-- the best plan so far, and its cost
pub record Best (C : Type 0) : Type 0 where
  pub plan : Plan
  pub cost : C

-- an account: the book, a rank for each decision, the trail with the newest choice first, the exclusion of each decision and value, the best, the state
pub record Account (C : Type 0) : Type 0 where
  pub book : Book
  pub ranks : ℕ → ℕ
  pub trail : List Entry
  pub exclusions : ℕ → ℕ → Option Exclusion
  pub best : Option (Best C)
  pub state : State

-- a new account over decisions: open, with no trail, exclusion, best or rule, and every rank 0
abbrev pub fresh : {C : Type 0} → List Decision → Account C
fresh ds =
    record {
      book = record { decisions = ds; forbids = []; activates = []; prices = [] };
      ranks = λ d. 0;
      trail = [];
      exclusions = λ d v. None;
      best = None;
      state = Open;
    }

-- the plan that a trail makes
abbrev pub chosen : List Entry → Plan
chosen [] d = 0
chosen (e ∷ es) d = cond (d == e.decision) e.value (chosen es d)

-- no decision at all
abbrev pub nobody : Set
nobody d = false

-- a set without one decision
abbrev pub except : Set → ℕ → Set
except s d x = s x && not (x == d)

-- two sets as one
abbrev pub either : Set → Set → Set
either s t x = s x || t x

-- whether a set has some decision of a list
abbrev pub has_any : Set → List ℕ → Bool
has_any s [] = false
has_any s (d ∷ ds) = s d || has_any s ds

-- whether a set has none of the decisions below n
abbrev pub empty_below : Set → ℕ → Bool
empty_below s zero = true
empty_below s (suc n) = not (s n) && empty_below s n
