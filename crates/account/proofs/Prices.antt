-- All that the search uses of costs: a plan that meets the kept price rules still reaches the best, and what more rules do to a cost.
use Rattle.std.proofs.lemmas.Grind.{common_steps}
use Rattle.std.proofs.Common.{arith}
use Rattle.std.proofs.Common.{◌≡◌, ℕ, ◌<◌, Bool, true, false, cond, List, [], ◌∷◌, ◌++◌, sym, refl, ◌∙◌, ⊎_elim}
use Rattle.std.specs.List.{AllByRecursion}
use Rattle.std.proofs.lemmas.Bool.{cond_both, or_cases, or_left, or_right, both_ways}
use Rattle.measure.specs.Meaning.{Meaning}
use Rattle.measure.proofs.Laws.{Laws}
use Rattle.rules.specs.Conditions.{Plan, names, condition, met}
use Rattle.rules.specs.Plans.{Book, cost}
use Rattle.rules.specs.declared.row.Row.{Row}
use Rattle.account.specs.Steps.{kept, named_in, price_reason}
use Rattle.account.proofs.Meeting.{met_same, met_chosen}

module _ {C : Type 0} (m : Meaning C) (laws : Laws m) where
  pub at_most_itself : (c : C) → m.at_most c c ≡ true
  at_most_itself c = ⊎_elim (λ h. h) (λ h. h) (laws.total c c)

  pub unit_left : (c : C) → m.joins m.neutral c ≡ c
  unit_left c = laws.commutative m.neutral c ∙ laws.unit c

  -- a rule more under the costs: no less is reached
  more : (best before : C) (r : Row) (rs : List Row) (q : Plan) → m.at_most best (m.joins before (cost m rs q)) ≡ true → m.at_most best (m.joins before (cost m (r ∷ rs) q)) ≡ true
  more best before r rs q h = cond_both (met q r) (m.joins (m.reads r.price) (cost m rs q)) (cost m rs q) (λ c. m.at_most best (m.joins before c) ≡ true) (λ e. wider) (λ e. h)
    where
      wider : m.at_most best (m.joins before (m.joins (m.reads r.price) (cost m rs q))) ≡ true
      wider = grind (arith, common_steps)

  -- a plan that meets what is kept reaches the best, if the plan it is kept from does
  kept_reaches : (best before : C) (rs : List Row) (p q : Plan) → m.at_most best (m.joins before (cost m rs p)) ≡ true → AllByRecursion (λ r. met q r ≡ true) (kept m best before rs p) → m.at_most best (m.joins before (cost m rs q)) ≡ true
  unfolding kept
  kept_reaches best before [] p q h all = h
  kept_reaches best before (r ∷ rs) p q h all =
      go (met p r) (m.at_most best (m.joins before (cost m rs p))) refl h all (kept_reaches best before rs p q) (kept_reaches best (m.joins before (m.reads r.price)) rs p q)
    where
      go : (t u : Bool) → m.at_most best (m.joins before (cost m rs p)) ≡ u → m.at_most best (m.joins before (cond t (m.joins (m.reads r.price) (cost m rs p)) (cost m rs p))) ≡ true → AllByRecursion (λ s. met q s ≡ true) (cond t (cond u (kept m best before rs p) (r ∷ kept m best (m.joins before (m.reads r.price)) rs p)) (kept m best before rs p)) → (m.at_most best (m.joins before (cost m rs p)) ≡ true → AllByRecursion (λ s. met q s ≡ true) (kept m best before rs p) → m.at_most best (m.joins before (cost m rs q)) ≡ true) → (m.at_most best (m.joins (m.joins before (m.reads r.price)) (cost m rs p)) ≡ true → AllByRecursion (λ s. met q s ≡ true) (kept m best (m.joins before (m.reads r.price)) rs p) → m.at_most best (m.joins (m.joins before (m.reads r.price)) (cost m rs q)) ≡ true) → m.at_most best (m.joins before (cost m (r ∷ rs) q)) ≡ true
      go true true e h all rest taken = more best before r rs q (rest e all)
      go true false e h all rest taken = rw (all.0, ← laws.associative before (m.reads r.price) (cost m rs q)) (taken (rw (laws.associative before (m.reads r.price) (cost m rs p)) h) all.1)
      go false u e h all rest taken = more best before r rs q (rest h all)

  -- what is kept is met
  kept_met : (best before : C) (rs : List Row) (p : Plan) → AllByRecursion (λ r. met p r ≡ true) (kept m best before rs p)
  unfolding kept
  kept_met best before [] p = tt
  kept_met best before (r ∷ rs) p = grind (arith, common_steps, kept_met best before rs p, kept_met best (m.joins before (m.reads r.price)) rs p)

  named_same : (rs : List Row) (p q : Plan) → ((x : ℕ) → named_in rs x ≡ true → q x ≡ p x) → AllByRecursion (λ r. met p r ≡ true) rs → AllByRecursion (λ r. met q r ≡ true) rs
  named_same [] p q same all = tt
  named_same (r ∷ rs) p q same all =
      (met_same r p q (λ x n. same x (or_left (names (condition r) x) (named_in rs x) n)) all.0, named_same rs p q (λ x n. same x (or_right (names (condition r) x) (named_in rs x) n)) all.1)

  named_chosen : (rs : List Row) (p : Plan) → AllByRecursion (λ r. met p r ≡ true) rs → (x : ℕ) → named_in rs x ≡ true → 0 < p x
  named_chosen [] p all x n = absurd (both_ways false refl n)
  named_chosen (r ∷ rs) p all x n = ⊎_elim (λ h. met_chosen r p all.0 x h) (λ h. named_chosen rs p all.1 x h) (or_cases (names (condition r) x) (named_in rs x) n)

  -- the decisions of the price reason are chosen
  pub price_chosen : (b : Book) (best : C) (p : Plan) (x : ℕ) → price_reason m b best p x ≡ true → 0 < p x
  price_chosen b best p x n = named_chosen (kept m best m.neutral b.prices p) p (kept_met best m.neutral b.prices p) x n

  -- a plan that agrees on the price reason reaches the best, if the plan it was read from does
  pub price_bars : (b : Book) (best : C) (p q : Plan) → m.at_most best (cost m b.prices p) ≡ true → ((x : ℕ) → price_reason m b best p x ≡ true → q x ≡ p x) → m.at_most best (cost m b.prices q) ≡ true
  price_bars b best p q h same =
      rw (unit_left (cost m b.prices q)) at
      (kept_reaches best m.neutral b.prices p q (rw (unit_left (cost m b.prices p)) h) (named_same (kept m best m.neutral b.prices p) p q same (kept_met best m.neutral b.prices p)))

  join_both : (t : Bool) (x c d : C) → cond t (m.joins x (m.joins c d)) (m.joins c d) ≡ m.joins (cond t (m.joins x c) c) d
  join_both true x c d = sym (laws.associative x c d)
  join_both false x c d = refl

  -- the cost over two lists of rules joins the costs over each
  pub cost_append : (rs ss : List Row) (p : Plan) → cost m (rs ++ ss) p ≡ m.joins (cost m rs p) (cost m ss p)
  cost_append [] ss p = sym (unit_left (cost m ss p))
  cost_append (r ∷ rs) ss p = rw (cost_append rs ss p) (join_both (met p r) (m.reads r.price) (cost m rs p) (cost m ss p))

  -- a rule that a plan does not meet leaves its cost
  pub cost_unmet : (rs : List Row) (r : Row) (p : Plan) → met p r ≡ false → cost m (rs ++ r ∷ []) p ≡ cost m rs p
  cost_unmet rs r p e = cost_append rs (r ∷ []) p ∙ rw e (laws.unit (cost m rs p))

  -- a rule more costs no less
  pub cost_more : (rs : List Row) (r : Row) (p : Plan) → m.at_most (cost m rs p) (cost m (rs ++ r ∷ []) p) ≡ true
  cost_more rs r p = rw (cost_append rs (r ∷ []) p) (laws.parts (cost m rs p) (cost m (r ∷ []) p)).0
