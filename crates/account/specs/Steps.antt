-- One step of the search, and so many steps.
use Rattle.std.specs.Prelude.{ℕ, zero, suc, Bool, true, false, cond, not, ◌&&◌, ◌||◌, List, [], ◌∷◌, length, Some, None, Option, ◌==◌, nat_le, nat_lt}
use Rattle.std.specs.Option.{option_or}
use Rattle.measure.specs.Meaning.{Meaning}
use Rattle.rules.specs.Conditions.{Plan, met, names, condition}
use Rattle.rules.specs.Plans.{Book, Set, size_at, on_at, enables, cost}
use Rattle.rules.specs.Refusals.{when}
use Rattle.rules.specs.declared.row.Row.{Row}
use Rattle.account.specs.Accounts.{Account, Entry, Exclusion, Best, chosen, nobody, except, either, has_any}
use Rattle.account.specs.declared.state.State.{State}
use Rattle.account.specs.declared.state.State.TheVariants.{Open, Settled}

-- whether a decision is active under the trail and not on it
abbrev pub waits : Book → Plan → ℕ → Bool
waits b p d = not (nat_lt 0 (p d)) && (on_at b.decisions d || enables b.activates p d)

-- a waiting decision n, beside what was preferred of those below it: the lower rank first
abbrev pub prefer : (ℕ → ℕ) → Bool → ℕ → Option ℕ → Option ℕ
prefer ranks false n o = o
prefer ranks true n None = Some n
prefer ranks true n (Some d) = cond (nat_lt (ranks n) (ranks d)) (Some n) (Some d)

-- of the first n decisions that wait, the one of lowest rank, then lowest number
abbrev pub pick : (ℕ → ℕ) → (ℕ → Bool) → ℕ → Option ℕ
pick ranks waiting zero = None
pick ranks waiting (suc n) = prefer ranks (waiting n) n (pick ranks waiting n)

-- the decisions in the condition of the first met activate rule with this target
abbrev pub enabled_by : List Row → Plan → ℕ → Set
enabled_by [] p d = nobody
enabled_by (r ∷ rs) p d = cond (d == r.target && met p r) (names (condition r)) (enabled_by rs p d)

-- the support of a decision: nobody if it is marked on
abbrev pub support : Book → Plan → ℕ → Set
support b p d = cond (on_at b.decisions d) nobody (enabled_by b.activates p d)

-- a plan, with one more choice
abbrev pub choose : Plan → ℕ → ℕ → Plan
choose p d v x = cond (x == d) v (p x)

-- the first of these rows that a plan meets
abbrev pub first_met : List Row → Plan → Option Row
first_met [] p = None
first_met (r ∷ rs) p = cond (met p r) (Some r) (first_met rs p)

-- a cost reaches the best's if the best's is at most that
abbrev pub reaches : {C : Type 0} → Meaning C → C → C → Bool
reaches m best c = m.at_most best c

-- the kept price rules: of those met, in place order, one is dropped if those kept before it and those met after it still reach the best's cost
unfoldable pub kept : {C : Type 0} → Meaning C → C → C → List Row → Plan → List Row
kept m best before [] p = []
kept m best before (r ∷ rs) p =
    cond (met p r)
    (cond (reaches m best (m.joins before (cost m rs p))) (kept m best before rs p) (r ∷ kept m best (m.joins before (m.reads r.price)) rs p))
    (kept m best before rs p)

-- the decisions that the conditions of rows name
abbrev pub named_in : List Row → Set
named_in [] d = false
named_in (r ∷ rs) d = names (condition r) d || named_in rs d

-- the decisions of the kept price rules for a plan
abbrev pub price_reason : {C : Type 0} → Meaning C → Book → C → Plan → Set
price_reason m b best p = named_in (kept m best m.neutral b.prices p)

-- the exclusion that a forbid rule gives
abbrev pub by_forbid : ℕ → Option Row → Option Exclusion
by_forbid d None = None
by_forbid d (Some r) = Some (record { reason = except (names (condition r)) d; rests = false })

-- the exclusion that the best's cost gives
abbrev pub by_price : {C : Type 0} → Meaning C → Book → ℕ → Plan → Option (Best C) → Option Exclusion
by_price m b d p None = None
by_price m b d p (Some best) =
    when (reaches m best.cost (cost m b.prices p)) (record { reason = except (price_reason m b best.cost p) d; rests = true })

-- the test of a value, by the plan with it in: first the forbid rules, then the cost
unfoldable pub test : {C : Type 0} → Meaning C → Book → Option (Best C) → ℕ → Plan → Option Exclusion
test m b best d p = option_or (by_forbid d (first_met b.forbids p)) (by_price m b d p best)

-- whether v is a value of a decision of this size
abbrev pub is_value : ℕ → ℕ → Bool
is_value size v = nat_le 1 v && nat_le v size

-- a value's exclusion, or else what its test gives
abbrev pub tested_at : {C : Type 0} → Meaning C → Account C → ℕ → ℕ → Bool → Option Exclusion → Option Exclusion
tested_at m a d v asked (Some e) = Some e
tested_at m a d v false None = None
tested_at m a d v true None = test m a.book a.best d (choose (chosen a.trail) d v)

-- the exclusions, with each value of d that has none tested
unfoldable pub tested : {C : Type 0} → Meaning C → Account C → ℕ → ℕ → ℕ → Option Exclusion
tested m a d x v = tested_at m a d v (x == d && is_value (size_at a.book.decisions d) v) (a.exclusions x v)

-- whether there is no exclusion
abbrev pub is_free : Option Exclusion → Bool
is_free None = true
is_free (Some e) = false

-- the smallest of the values 1 to n that has no exclusion
abbrev pub smallest_free : (ℕ → Option Exclusion) → ℕ → Option ℕ
smallest_free ex zero = None
smallest_free ex (suc n) = option_or (smallest_free ex n) (when (is_free (ex (suc n))) (suc n))

abbrev pub reason_of : Option Exclusion → Set
reason_of None = nobody
reason_of (Some e) = e.reason

abbrev pub rests_on : Option Exclusion → Bool
rests_on None = false
rests_on (Some e) = e.rests

-- all reasons of the values 1 to n
abbrev pub reasons : (ℕ → Option Exclusion) → ℕ → Set
reasons ex zero = nobody
reasons ex (suc n) = either (reasons ex n) (reason_of (ex (suc n)))

-- whether an exclusion of the values 1 to n rests on the best
abbrev pub any_rests : (ℕ → Option Exclusion) → ℕ → Bool
any_rests ex zero = false
any_rests ex (suc n) = any_rests ex n || rests_on (ex (suc n))

-- what a blame takes from the trail: the latest blamed entry, the decisions that leave, the entries that stay
pub record Retreat : Type 0 where
  pub culprit : Entry
  pub left : List ℕ
  pub stays : List Entry

-- an entry newer than the latest blamed one leaves if its support has a decision that left
abbrev pub follow : Entry → Option Retreat → Option Retreat
follow e None = None
follow e (Some r) =
    Some (cond (has_any e.support r.left)
    (record { culprit = r.culprit; left = e.decision ∷ r.left; stays = r.stays })
    (record { culprit = r.culprit; left = r.left; stays = e ∷ r.stays }))

-- the retreat from a blame; none if no entry is blamed, which is when the blame is empty
unfoldable pub retreat : Set → List Entry → Option Retreat
retreat blame [] = None
retreat blame (e ∷ es) =
    cond (blame e.decision) (Some (record { culprit = e; left = e.decision ∷ []; stays = es })) (follow e (retreat blame es))

-- an exclusion goes if its reason names a decision that left
abbrev pub unless_left : List ℕ → Option Exclusion → Option Exclusion
unless_left left None = None
unless_left left (Some e) = cond (has_any e.reason left) None (Some e)

-- the exclusions after a retreat: the blamed value is excluded by the rest of the blame
abbrev pub relearn : (ℕ → ℕ → Option Exclusion) → Set → Bool → Retreat → ℕ → ℕ → Option Exclusion
relearn ex blame rests r x v =
    cond (x == r.culprit.decision && v == r.culprit.value) (Some (record { reason = except blame r.culprit.decision; rests = rests }))
    (unless_left r.left (ex x v))

-- the account after a blame: settled if nothing is blamed
abbrev pub blamed : {C : Type 0} → Account C → Set → Bool → Option Retreat → Account C
blamed a blame rests None =
    record { book = a.book; ranks = a.ranks; trail = a.trail; exclusions = a.exclusions; best = a.best; state = Settled }
blamed a blame rests (Some r) =
    record {
      book = a.book;
      ranks = a.ranks;
      trail = r.stays;
      exclusions = relearn a.exclusions blame rests r;
      best = a.best;
      state = a.state;
    }

abbrev pub blame : {C : Type 0} → Account C → Set → Bool → Account C
blame a s rests = blamed a s rests (retreat s a.trail)

abbrev pub with_exclusions : {C : Type 0} → Account C → (ℕ → ℕ → Option Exclusion) → Account C
with_exclusions a ex = record { book = a.book; ranks = a.ranks; trail = a.trail; exclusions = ex; best = a.best; state = a.state }

-- the picked decision enters with its smallest free value, or is a dead end
abbrev pub enter : {C : Type 0} → Account C → ℕ → Option ℕ → Account C
enter a d (Some v) =
    record {
      book = a.book;
      ranks = a.ranks;
      trail = record { decision = d; value = v; support = support a.book (chosen a.trail) d } ∷ a.trail;
      exclusions = a.exclusions;
      best = a.best;
      state = a.state;
    }
enter a d None =
    let n = size_at a.book.decisions d in
    blame a (either (reasons (a.exclusions d) n) (support a.book (chosen a.trail) d)) (any_rests (a.exclusions d) n)

-- a step that picks the decision d
unfoldable pub extend : {C : Type 0} → Meaning C → Account C → ℕ → Account C
extend m a d =
    let t = with_exclusions a (tested m a d) in
    enter t d (smallest_free (t.exclusions d) (size_at a.book.decisions d))

-- the best, beside a complete trail's plan: the plan if none is held or it costs less
abbrev pub champion : {C : Type 0} → Meaning C → Option (Best C) → Best C → Best C
champion m None c = c
champion m (Some b) c = cond (reaches m b.cost c.cost) b c

-- a step on a complete trail
unfoldable pub conclude : {C : Type 0} → Meaning C → Account C → Account C
conclude m a =
    let p = chosen a.trail in
    let b = champion m a.best (record { plan = p; cost = cost m a.book.prices p }) in
    blame (record { book = a.book; ranks = a.ranks; trail = a.trail; exclusions = a.exclusions; best = Some b; state = a.state })
    (price_reason m a.book b.cost p) true

abbrev pub step_at : {C : Type 0} → Meaning C → Account C → Option ℕ → Account C
step_at m a None = conclude m a
step_at m a (Some d) = extend m a d

-- one step, which is made only in the open state
unfoldable pub step : {C : Type 0} → Meaning C → Account C → Account C
step m a = step_at m a (pick a.ranks (waits a.book (chosen a.trail)) (length a.book.decisions))

abbrev pub advance_in : {C : Type 0} → Meaning C → Account C → State → Account C
advance_in m a Open = step m a
advance_in m a Settled = a

-- the account after up to n steps
abbrev pub advance : {C : Type 0} → Meaning C → ℕ → Account C → Account C
advance m zero a = a
advance m (suc n) a = let b = advance m n a in advance_in m b b.state

abbrev pub one_if_open : State → ℕ
one_if_open Open = 1
one_if_open Settled = 0
