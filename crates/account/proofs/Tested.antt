-- What the test of a value finds, and what the exclusions say after it.
use Rattle.std.proofs.lemmas.Grind.{common_steps}
use Rattle.std.proofs.Common.{◌≡◌, ℕ, ◌<◌, ◌≤◌, Bool, true, false, not, ◌&&◌, eqb, leb, ◌⊎◌, Some, None, Option, sym, refl, inl, inr, ⊎_elim, arith}
use Rattle.std.specs.Option.{option_or}
use Rattle.std.specs.List.{ContainsAt as Has, AllByRecursion}
use Rattle.std.proofs.ByRecursion.{all-has}
use Rattle.std.proofs.lemmas.Option.{none-some}
use Rattle.std.proofs.lemmas.Bool.{cases_eq, and_parts, and_from, both_ways, eqb-true, eqb-false, eq-eqb, ne_eqb, not-true, not_from_false, leb-true, le-leb}
use Rattle.measure.specs.Meaning.{Meaning}
use Rattle.measure.proofs.Laws.{Laws}
use Rattle.rules.specs.Conditions.{Plan, names, condition, met}
use Rattle.rules.specs.Plans.{Set, Lawful, cost, size_at}
use Rattle.rules.specs.Refusals.{when}
use Rattle.rules.specs.declared.row.Row.{Row}
use Rattle.account.specs.Accounts.{Account, Exclusion, Best, chosen, except, has_any}
use Rattle.account.specs.Law.{RulesOut}
use Rattle.account.specs.Steps.{choose, first_met, price_reason, by_forbid, by_price, test, is_value, tested_at, tested, Retreat, relearn}
use Rattle.account.proofs.Finds.{First, first_met_lem}
use Rattle.account.proofs.Meeting.{met_same, met_chosen}
use Rattle.account.proofs.Prices.{price_chosen, price_bars}

-- what a set without one decision has
pub except_parts : (s : Set) (d x : ℕ) → except s d x ≡ true → (s x ≡ true) × (x ≡ d → ⊥)
except_parts s d x h = let parts = and_parts (s x) (not (eqb x d)) h in (parts.0, eqb-false x d (not-true (eqb x d) parts.1))

pub except_from : (s : Set) (d x : ℕ) → s x ≡ true → (x ≡ d → ⊥) → except s d x ≡ true
except_from s d x h ne = and_from (s x) (not (eqb x d)) h (not_from_false (eqb x d) (ne_eqb x d ne))

-- a set without one decision, and that one
pub agrees_more : (s : Set) (d : ℕ) (p q : Plan) → ((x : ℕ) → except s d x ≡ true → q x ≡ p x) → q d ≡ p d → (x : ℕ) → s x ≡ true → q x ≡ p x
agrees_more s d p q same here x t = ⊎_elim (λ (e : x ≡ d). rw e here) (λ (ne : x ≡ d → ⊥). same x (except_from s d x t ne)) (cases_eq x d)

module _ {C : Type 0} (m : Meaning C) (a : Account C) (d : ℕ) (p : Plan) where
  -- a forbid rule is met
  pub record ByForbid (e : Exclusion) : Type 0 where
    pub row : Row
    pub is_met : met p row ≡ true
    pub is_held : Has a.book.forbids row
    pub is : e ≡ record { reason = except (names (condition row)) d; rests = false }

  -- the best's cost is reached
  pub record ByPrice (e : Exclusion) : Type 0 where
    pub best : Best C
    pub is_held : a.best ≡ Some best
    pub reached : m.at_most best.cost (cost m a.book.prices p) ≡ true
    pub is : e ≡ record { reason = except (price_reason m a.book best.cost p) d; rests = true }

  -- what a test finds
  abbrev pub Given : Option Exclusion → Type 0
  Given None = AllByRecursion (λ r. met p r ≡ false) a.book.forbids
  Given (Some e) = ByForbid e ⊎ ByPrice e

  by_price_lem : AllByRecursion (λ r. met p r ≡ false) a.book.forbids → (o : Option (Best C)) → a.best ≡ o → Given (by_price m a.book d p o)
  by_price_lem none None q = none
  by_price_lem none (Some b) q = go (m.at_most b.cost (cost m a.book.prices p)) refl
    where
      go : (t : Bool) → m.at_most b.cost (cost m a.book.prices p) ≡ t → Given (when t (record { reason = except (price_reason m a.book b.cost p) d; rests = true }))
      go true e = inr (record { best = b; is_held = q; reached = e; is = refl })
      go false e = none

  pub given : Given (test m a.book a.best d p)
  unfolding test
  given = go (first_met a.book.forbids p) (first_met_lem a.book.forbids p)
    where
      go : (o : Option Row) → First a.book.forbids p o → Given (option_or (by_forbid d o) (by_price m a.book d p a.best))
      go None h = by_price_lem h a.best refl
      go (Some r) h = inl (record { row = r; is_met = h.0; is_held = h.1; is = refl })

  module _ (laws : Laws m) where
    -- a test's reason names decisions that the plan chooses, and not the one tested
    pub given_within : (e : Exclusion) → Given (Some e) → (x : ℕ) → e.reason x ≡ true → (0 < p x) × (x ≡ d → ⊥)
    given_within e (inl f) x t =
        let parts = except_parts (names (condition f.row)) d x (rw f.is at t) in
        (met_chosen f.row p f.is_met x parts.0, parts.1)
    given_within e (inr f) x t =
        let parts = except_parts (price_reason m a.book f.best.cost p) d x (rw f.is at t) in
        (price_chosen m laws a.book f.best.cost p x parts.0, parts.1)

    -- a test that rests has a best
    pub given_rests : (e : Exclusion) → Given (Some e) → e.rests ≡ true → (b : Best C) × (a.best ≡ Some b)
    given_rests e (inl f) t = absurd (both_ways false refl (rw f.is at t))
    given_rests e (inr f) t = (f.best, f.is_held)

    -- a lawful plan that agrees with the reason and has the value is ruled out
    pub given_bars : (e : Exclusion) → Given (Some e) → (q : Plan) → Lawful a.book q → ((x : ℕ) → e.reason x ≡ true → q x ≡ p x) → q d ≡ p d → RulesOut m a e.rests q
    given_bars e (inl f) q law same here =
        absurd
        (both_ways (met q f.row) (all-has (λ r. met q r ≡ false) a.book.forbids f.row law.unforbidden f.is_held)
        (met_same f.row p q (agrees_more (names (condition f.row)) d p q (λ x t. same x (rw f.is t)) here) f.is_met))
    given_bars e (inr f) q law same here =
        rw f.is
        (f.best, f.is_held, price_bars m laws a.book f.best.cost p q f.reached (agrees_more (price_reason m a.book f.best.cost p) d p q (λ x t. same x (rw f.is t)) here))

module _ {C : Type 0} (m : Meaning C) (a : Account C) (d : ℕ) where
  -- an exclusion after the test of d's values: it stood before, or a value of d was tested
  pub record New (x v : ℕ) (e : Exclusion) : Type 0 where
    pub is_picked : x ≡ d
    pub low : 1 ≤ v
    pub high : v ≤ size_at a.book.decisions d
    pub is_given : Given m a d (choose (chosen a.trail) d v) (Some e)

  pub tested_some : (x v : ℕ) (e : Exclusion) → tested m a d x v ≡ Some e → (a.exclusions x v ≡ Some e) ⊎ New x v e
  unfolding tested
  tested_some x v e h = go (eqb x d && is_value (size_at a.book.decisions d) v) refl (a.exclusions x v) h
    where
      go : (t : Bool) → (eqb x d && is_value (size_at a.book.decisions d) v) ≡ t → (o : Option Exclusion) → tested_at m a d v t o ≡ Some e → (o ≡ Some e) ⊎ New x v e
      go t q (Some f) g = inl g
      go false q None g = absurd (none-some e g)
      go true q None g =
          let parts = and_parts (eqb x d) (is_value (size_at a.book.decisions d) v) q in
          let range = and_parts (leb 1 v) (leb v (size_at a.book.decisions d)) parts.1 in
          inr
          (record {
            is_picked = eqb-true x d parts.0;
            low = leb-true 1 v range.0;
            high = leb-true v (size_at a.book.decisions d) range.1;
            is_given = rw g at (given m a d (choose (chosen a.trail) d v));
          })

  -- what has no exclusion after the test had none before, and at a value of d no forbid rule is met
  pub tested_none : (v : ℕ) → 1 ≤ v → v ≤ size_at a.book.decisions d → tested m a d d v ≡ None → (a.exclusions d v ≡ None) × AllByRecursion (λ r. met (choose (chosen a.trail) d v) r ≡ false) a.book.forbids
  unfolding tested
  tested_none v l u h = go (a.exclusions d v) (rw (eq-eqb d d refl, le-leb 1 v l, le-leb v (size_at a.book.decisions d) u) at h)
    where
      go : (o : Option Exclusion) → tested_at m a d v true o ≡ None → (o ≡ None) × AllByRecursion (λ r. met (choose (chosen a.trail) d v) r ≡ false) a.book.forbids
      go None g = (refl, rw g at (given m a d (choose (chosen a.trail) d v)))
      go (Some e) g = absurd (none-some e (sym g))

  -- elsewhere nothing changes
  pub tested_other : (x v : ℕ) → (x ≡ d → ⊥) → tested m a d x v ≡ a.exclusions x v
  unfolding tested
  tested_other x v ne = grind (arith, common_steps)

-- an exclusion after a retreat: the blamed value's, or one that stood before and names nothing that left
pub relearned : (ex : ℕ → ℕ → Option Exclusion) (s : Set) (rests : Bool) (r : Retreat) (x v : ℕ) (e : Exclusion) → relearn ex s rests r x v ≡ Some e → ((x ≡ r.culprit.decision) × (v ≡ r.culprit.value) × (e ≡ record { reason = except s r.culprit.decision; rests = rests })) ⊎ ((ex x v ≡ Some e) × (has_any e.reason r.left ≡ false))
relearned ex s rests r x v e h = grind (arith, common_steps)
