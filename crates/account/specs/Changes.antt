-- What an accepted add or withdraw does.
use Rattle.std.specs.Prelude.{ℕ, Bool, false, cond, not, ◌&&◌, List, [], ◌∷◌, ◌++◌, length, Some, None, Option}
use Rattle.std.specs.List.{remove}
use Rattle.measure.specs.Meaning.{Meaning}
use Rattle.rules.specs.Conditions.{met}
use Rattle.rules.specs.Plans.{Book, cost, is_lawful}
use Rattle.rules.specs.declared.row.Kind.{Kind}
use Rattle.rules.specs.declared.row.Kind.TheVariants.{Forbid, Activate, Price}
use Rattle.rules.specs.declared.row.Row.{Row}
use Rattle.account.specs.Accounts.{Account, Exclusion, Best, empty_below}
use Rattle.account.specs.declared.state.State.TheVariants.{Open}

-- the rules of a kind, in place order
abbrev pub held : Book → Kind → List Row
held b Forbid = b.forbids
held b Activate = b.activates
held b Price = b.prices

-- a book with other rules of one kind
abbrev pub with_rules : Book → Kind → List Row → Book
with_rules b Forbid rs = record { decisions = b.decisions; forbids = rs; activates = b.activates; prices = b.prices }
with_rules b Activate rs = record { decisions = b.decisions; forbids = b.forbids; activates = rs; prices = b.prices }
with_rules b Price rs = record { decisions = b.decisions; forbids = b.forbids; activates = b.activates; prices = rs }

-- an exclusion that passes a test
abbrev pub keep_if : (Exclusion → Bool) → Option Exclusion → Option Exclusion
keep_if test None = None
keep_if test (Some e) = cond (test e) (Some e) None

-- after a change of rules: no trail, open, another book and best; of the exclusions with an empty reason those that pass a test
abbrev pub reopened : {C : Type 0} → Account C → Book → Option (Best C) → (Exclusion → Bool) → Account C
reopened a book best keep =
    record {
      book = book;
      ranks = a.ranks;
      trail = [];
      exclusions = λ d v. keep_if (λ e. empty_below e.reason (length a.book.decisions) && keep e) (a.exclusions d v);
      best = best;
      state = Open;
    }

-- whether the best is held and meets a rule
abbrev pub best_meets : {C : Type 0} → Option (Best C) → Row → Bool
best_meets None r = false
best_meets (Some b) r = met b.plan r

-- the best, unless it meets a rule
abbrev pub unless_met : {C : Type 0} → Row → Option (Best C) → Option (Best C)
unless_met r None = None
unless_met r (Some b) = cond (met b.plan r) None (Some b)

-- the best, its cost worked out again
abbrev pub repriced : {C : Type 0} → Meaning C → List Row → Option (Best C) → Option (Best C)
repriced m prices None = None
repriced m prices (Some b) = Some (record { plan = b.plan; cost = cost m prices b.plan })

-- the best, if it is lawful by a book
abbrev pub if_lawful : {C : Type 0} → Book → Option (Best C) → Option (Best C)
if_lawful book None = None
if_lawful book (Some b) = cond (is_lawful book b.plan) (Some b) None

-- a rule more
unfoldable pub added : {C : Type 0} → Meaning C → Account C → Kind → Row → Account C
added m a Forbid r = reopened a (with_rules a.book Forbid (a.book.forbids ++ r ∷ [])) (unless_met r a.best) (λ e. not (best_meets a.best r && e.rests))
added m a Activate r =
    let book = with_rules a.book Activate (a.book.activates ++ r ∷ []) in
    reopened a book (if_lawful book a.best) (λ e. false)
added m a Price r =
    let prices = a.book.prices ++ r ∷ [] in
    reopened a (with_rules a.book Price prices) (repriced m prices a.best) (λ e. not (best_meets a.best r && e.rests))

-- the rule of a kind at a place less
unfoldable pub withdrawn : {C : Type 0} → Meaning C → Account C → Kind → ℕ → Account C
withdrawn m a Forbid k = reopened a (with_rules a.book Forbid (remove a.book.forbids k)) a.best (λ e. false)
withdrawn m a Activate k =
    let book = with_rules a.book Activate (remove a.book.activates k) in
    reopened a book (if_lawful book a.best) (λ e. false)
withdrawn m a Price k =
    let prices = remove a.book.prices k in
    reopened a (with_rules a.book Price prices) (repriced m prices a.best) (λ e. not e.rests)
