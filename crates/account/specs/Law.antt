-- The planning law, over any two lists of calls from an opening.
use Rattle.std.specs.Prelude.{◌≡◌, ℕ, ◌+◌, ◌^◌, ◌<◌, ◌≤◌, Bool, true, false, ◌&&◌, ◌↔◌, List, [], ◌∷◌, length, Some, None, sum_by, count_by, Option, ◌==◌}
use Rattle.std.specs.List.{AllByRecursion}
use Rattle.measure.specs.Meaning.{Meaning}
use Rattle.rules.specs.Conditions.{Plan, plan_of, condition}
use Rattle.rules.specs.Judging.{open_refusal}
use Rattle.rules.specs.Plans.{Book, Set, Lawful, cost, is_lawful}
use Rattle.rules.specs.declared.decision.Decision.{Decision}
use Rattle.rules.specs.declared.literal.Literal.{Literal}
use Rattle.rules.specs.declared.row.Kind.{Kind}
use Rattle.rules.specs.declared.row.Row.{Row}
use Rattle.account.specs.Accounts.{Account, Exclusion, Best, fresh, chosen}
use Rattle.account.specs.Calls.{Call, ran, reported, excluded, run, best, exclusion, answer, history, steps_since}
use Rattle.account.specs.Changes.{held}
use Rattle.account.specs.declared.state.State.{State}
use Rattle.account.specs.declared.state.State.TheVariants.{Settled}

-- whether two lists have the same pairs in the same order
abbrev pub same_pairs : List Literal → List Literal → Bool
same_pairs [] [] = true
same_pairs [] (k ∷ ks) = false
same_pairs (l ∷ ls) [] = false
same_pairs (l ∷ ls) (k ∷ ks) = l.decision == k.decision && l.value == k.value && same_pairs ls ks

-- whether two rules of one kind are the same: in pairs, target and price
abbrev pub same_rule : Row → Row → Bool
same_rule r s =
    same_pairs (condition r) (condition s) && r.target == s.target && r.price.tier == s.price.tier && r.price.cents == s.price.cents

-- two books hold the same rules of each kind, each equally often
abbrev pub SameRules : Book → Book → Type 0
SameRules b b' = (k : Kind) (r : Row) → count_by (same_rule r) (held b k) ≡ count_by (same_rule r) (held b' k)

-- a plan agrees with a trail on the decisions of a set
abbrev pub Agrees : Plan → Plan → Set → Type 0
Agrees p t s = (d : ℕ) → s d ≡ true → p d ≡ t d

module _ {C : Type 0} (m : Meaning C) where
  -- two accounts that are settled over the same rules report one cost, the least, or none where no plan is lawful
  pub record OneCost (a a' : Account C) : Type 0 where
    pub same : (buffer buffer' bytes bytes' : List ℕ) (c c' : Option C) → answer m a (best buffer) ≡ reported Settled c bytes → answer m a' (best buffer') ≡ reported Settled c' bytes' → c ≡ c'
    pub least : (buffer bytes : List ℕ) (c : C) → answer m a (best buffer) ≡ reported Settled (Some c) bytes → (p : Plan) → Lawful a.book p → m.at_most c (cost m a.book.prices p) ≡ true
    pub none : (buffer bytes : List ℕ) (c : Option C) → answer m a (best buffer) ≡ reported Settled c bytes → (c ≡ None) ↔ ((p : Plan) → Lawful a.book p → ⊥)

  -- an exclusion that rests on the best speaks against plans that cost less than a held best, any other against all lawful plans
  abbrev pub RulesOut : Account C → Bool → Plan → Type 0
  RulesOut a false p = ⊥
  RulesOut a true p = (b : Best C) × (a.best ≡ Some b) × (m.at_most b.cost (cost m a.book.prices p) ≡ true)

  -- what holds of one list of calls from the opening
  pub record Kept (ds : List Decision) (cs : List Call) (a : Account C) : Type 0 where
    pub best_is_lawful : (buffer bytes : List ℕ) (s : State) (c : C) → answer m a (best buffer) ≡ reported s (Some c) bytes → Lawful a.book (plan_of (length ds) bytes) × (c ≡ cost m a.book.prices (plan_of (length ds) bytes))
    pub exclusions_are_true : (d v : ℕ) (e : Exclusion) → answer m a (exclusion d v) ≡ excluded (Some e) → (p : Plan) → Lawful a.book p → p d ≡ v → Agrees p (chosen a.trail) e.reason → RulesOut a e.rests p
    pub resting_needs_a_best : (d v : ℕ) (e : Exclusion) → answer m a (exclusion d v) ≡ excluded (Some e) → e.rests ≡ true → (b : Best C) × (a.best ≡ Some b)
    pub steps_are_bounded : steps_since m 0 (fresh ds) cs ≤ (sum_by (λ (d : Decision). d.size) ds + 2) ^ (length ds + 1)
    pub short_run_is_settled : (budget steps : ℕ) (s : State) → answer m a (run budget) ≡ ran steps s → steps < budget → s ≡ Settled

  -- the law, for accepted decisions and any two lists of calls
  pub record PlanningLaw (ds : List Decision) (cs cs' : List Call) : Type 0 where
    pub every_list : Kept ds cs (history m (fresh ds) cs)
    pub two_lists : SameRules (history m (fresh ds) cs).book (history m (fresh ds) cs').book → OneCost (history m (fresh ds) cs) (history m (fresh ds) cs')

  abbrev pub Planning : Type 0
  Planning = (ds : List Decision) → open_refusal ds ≡ None → (cs cs' : List Call) → PlanningLaw ds cs cs'

-- the test of lawfulness that a change of rules makes tells lawful plans from the others, where targets are known and nothing past the decisions is chosen
abbrev pub LawfulIsTested : Type 0
LawfulIsTested =
    (b : Book) (p : Plan) → AllByRecursion (λ r. r.target < length b.decisions) b.activates → ((d : ℕ) → length b.decisions ≤ d → p d ≡ 0) → (is_lawful b p ≡ true) ↔ Lawful b p
