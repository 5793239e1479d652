-- What follows from the planning law, without the definitions that it has of its own: for which decisions, books and runs it holds.
use Rattle.std.specs.Prelude.{◌≡◌, ℕ, ◌+◌, ◌^◌, ◌<◌, ◌≤◌, true, false, List, [], ◌∷◌, length, Some, None, sum_by, Option}
use Rattle.std.specs.List.{AllByRecursion}
use Rattle.std.specs.List.Sorted.{IsPermutation}
use Rattle.measure.specs.Meaning.{Meaning}
use Rattle.measure.specs.Supplied.{cents}
use Rattle.rules.specs.Conditions.{Plan}
use Rattle.rules.specs.Plans.{Lawful, cost}
use Rattle.rules.specs.declared.decision.Decision.{Decision}
use Rattle.rules.specs.declared.row.Kind.{Kind}
use Rattle.account.specs.Accounts.{Account, Exclusion, chosen, fresh}
use Rattle.account.specs.Calls.{Call, best, exclusion, run, excluded, ran, reported, answer, history}
use Rattle.account.specs.Changes.{held}
use Rattle.account.specs.Worked.{book, forbid, off, on, pair, trap}
use Rattle.account.specs.declared.state.State.{State}
use Rattle.account.specs.declared.state.State.TheVariants.{Settled}

module _ {C : Type 0} (m : Meaning C) where
  -- best reports a state, and a cost or none
  abbrev pub Reports : Account C → State → Option C → Type 0
  Reports a s c = (buffer : List ℕ) × (bytes : List ℕ) × (answer m a (best buffer) ≡ reported s c bytes)

  -- exclusion answers that a value is excluded
  abbrev pub Excluded : Account C → ℕ → ℕ → Exclusion → Type 0
  Excluded a d v e = answer m a (exclusion d v) ≡ excluded (Some e)

  -- a lawful plan that has a value, and the trail's values for the decisions of a reason
  pub record Beside (a : Account C) (d v : ℕ) (e : Exclusion) (p : Plan) : Type 0 where
    pub lawful : Lawful a.book p
    pub has : p d ≡ v
    pub agrees : (x : ℕ) → e.reason x ≡ true → p x ≡ chosen a.trail x

  -- of an account over decisions
  pub record Follows (ds : List Decision) (a : Account C) : Type 0 where
    -- settled with a best: no lawful plan costs less; settled without: no plan is lawful
    pub cheapest : (c : C) → Reports a Settled (Some c) → (p : Plan) → Lawful a.book p → m.at_most c (cost m a.book.prices p) ≡ true
    pub hopeless : Reports a Settled None → (p : Plan) → Lawful a.book p → ⊥
    -- no lawful plan has an excluded value beside what its reason names; if the exclusion rests on the best, which is then held, none that costs less
    pub barred : (d v : ℕ) (e : Exclusion) → Excluded a d v e → e.rests ≡ false → (p : Plan) → Beside a d v e p → ⊥
    pub beaten : (d v : ℕ) (e : Exclusion) → Excluded a d v e → e.rests ≡ true → (s : State) (c : C) → Reports a s (Some c) → (p : Plan) → Beside a d v e p → m.at_most c (cost m a.book.prices p) ≡ true
    pub best_is_held : (d v : ℕ) (e : Exclusion) → Excluded a d v e → e.rests ≡ true → (s : State) → Reports a s None → ⊥
    -- over few decisions, a run that may make more steps than a search can have settles
    pub long_run : (budget : ℕ) → (sum_by (λ (d : Decision). d.size) ds + 2) ^ (length ds + 1) < budget → budget ≤ 1000000 → (k : ℕ) × (answer m a (run budget) ≡ ran k Settled)

  -- the rules of each kind are the same, in any order
  abbrev pub Reordered : Account C → Account C → Type 0
  Reordered a a' = (k : Kind) → IsPermutation (held a.book k) (held a'.book k)

  -- for at most 64 decisions of 1 to 16 values and any two lists of calls: what follows of one, and that both report one cost if they are settled and their rules are in other orders only
  abbrev pub Consequences : Type 0
  Consequences =
      (ds : List Decision) → length ds ≤ 64 → AllByRecursion (λ (d : Decision). (1 ≤ d.size) × (d.size ≤ 16)) ds → (cs cs' : List Call)
      → Follows ds (history m (fresh ds) cs)
      × (Reordered (history m (fresh ds) cs) (history m (fresh ds) cs') → (c c' : Option C) → Reports (history m (fresh ds) cs) Settled c → Reports (history m (fresh ds) cs') Settled c' → c ≡ c')

-- what searches of small books tell of all plans over them
pub record BoundsShown : Type 0 where
  -- no lawful plan of the worked book costs less than 60 cents
  pub worked : (p : Plan) → Lawful book p → 60 ≤ (cost cents book.prices p).sum
  -- 0=1 activates decision 1, whose one value is forbidden: no lawful plan has 0=1
  pub trapped : (p : Plan) → Lawful (history cents (fresh (on 2 ∷ off 1 ∷ [])) trap).book p → p 0 ≡ 1 → ⊥
  -- the one value of the one decision is forbidden: no plan is lawful
  pub hopeless : (p : Plan) → Lawful (history cents (fresh (on 1 ∷ [])) (forbid (pair 0 1) ∷ [])).book p → ⊥
