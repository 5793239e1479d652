-- A pass over the exclusions that takes some of them out.
use Rattle.std.proofs.lemmas.Grind.{common_steps}
use Rattle.std.proofs.Common.{◌≡◌, ℕ, zero, suc, ◌+◌, ◌<◌, ◌≤◌, Bool, false, cond, not, ◌&&◌, ◌||◌, eqb, ltb, length, get_or, set, Some, None, Option, sym, refl, ap, ◌∙◌, inl, inr, arith}
use Rattle.std.proofs.lemmas.Bool.{and_right, cases_eq, le-ltb, lt-ltb}
use Rattle.rules.specs.Plans.{Set}
use Rattle.account.specs.Accounts.{Exclusion, empty_below}
use Rattle.account.specs.Changes.{keep_if}
use Rattle.account.specs.Steps.{is_free}
use Rattle.sets.proofs.BoolLaws.{and_held, or_failed}
use Rattle.sets.proofs.SearchLaws.{some_below_same}
use Rattle.sets.proofs.Values.{no_value_above, no_value_zero, values_empty}
use Rattle.sets.specs.Members.{values}
use Rattle.sets.specs.Searches.{some_below}
use Rattle.sets.specs.declared.value_set.ValueSet.{ValueSet}
use Rattle.tables.specs.Excluded.{exclusions_of, is_excluded, no_value, spared}
use Rattle.tables.specs.declared.exclusions.Exclusions.{Exclusions}
use Rattle.tables.proofs.Cells.{not_excluded, past_excluded}

-- whether a value is excluded and stays
abbrev pub stays : (Exclusion → Bool) → Exclusions → ℕ → ℕ → Bool
stays keep x d v = not (is_free (keep_if keep (exclusions_of x d v)))

-- a set that is filled value by value with those that a test holds of
module _ (t : ℕ → Bool) where
  -- no value is through
  pub filled_none : t 0 ≡ false → (s : ValueSet) → values s ≡ (λ x. false) → values s ≡ (λ x. ltb x 1 && t x)
  filled_none none s e = grind (arith, common_steps)

  -- all values are through
  pub filled_all : (s : ValueSet) (v : ℕ) → 17 ≤ v → ((x : ℕ) → 16 < x → t x ≡ false) → values s ≡ (λ x. ltb x v && t x) → values s ≡ t
  filled_all s v h past before = grind (arith, common_steps)

module _ (keep : Exclusion → Bool) (x : Exclusions) (d : ℕ) where
  not_staying : (v : ℕ) → is_excluded x d v ≡ false → stays keep x d v ≡ false
  not_staying v e = ap (λ (o : Option Exclusion). not (is_free (keep_if keep o))) (not_excluded x d v e)

  -- 0 is no value
  pub stays_zero : stays keep x d 0 ≡ false
  stays_zero = not_staying 0 (no_value_zero (get_or x.excluded d no_value))

  -- nor is what is above 16
  pub stays_past : (v : ℕ) → 16 < v → stays keep x d v ≡ false
  stays_past v h = not_staying v (no_value_above (get_or x.excluded d no_value) v h)

  -- the values of a decision that stay, in place of its excluded ones
  pub spared_at : (s : ValueSet) → d < 64 → d < length x.excluded → values s ≡ stays keep x d
      → (y w : ℕ) → exclusions_of (record { excluded = set x.excluded d s; resting = x.resting; reasons = x.reasons }) y w ≡ cond (eqb y d) (keep_if keep (exclusions_of x y w)) (exclusions_of x y w)
  unfolding exclusions_of
  spared_at s h l e y w = grind (arith, common_steps)

  -- a decision with no excluded value has nothing to spare
  pub spared_none : (get_or x.excluded d no_value).bits ≡ 0 → (y w : ℕ) → exclusions_of x y w ≡ cond (eqb y d) (keep_if keep (exclusions_of x y w)) (exclusions_of x y w)
  spared_none e y w = grind (arith, common_steps, not_excluded, values_empty)

-- the decisions below d are through
abbrev pub Through : (Exclusion → Bool) → (ℕ → ℕ → Option Exclusion) → (ℕ → ℕ → Option Exclusion) → ℕ → Type 0
Through keep start now d = now ≡ (λ y w. cond (ltb y d) (keep_if keep (start y w)) (start y w))

-- one more decision is through
pub through_more : (keep : Exclusion → Bool) (start now later : ℕ → ℕ → Option Exclusion) (d : ℕ) → Through keep start now d
    → ((y w : ℕ) → later y w ≡ cond (eqb y d) (keep_if keep (now y w)) (now y w)) → Through keep start later (d + 1)
through_more keep start now later d before one = grind (arith, common_steps)

-- all decisions are through
pub through_all : (keep : Exclusion → Bool) (x : Exclusions) (now : ℕ → ℕ → Option Exclusion) (d : ℕ) → 64 ≤ d → Through keep (exclusions_of x) now d → now ≡ (λ y w. keep_if keep (exclusions_of x y w))
through_all keep x now d h before = grind (arith, common_steps, past_excluded)

-- some of the decisions below a number are in a set, or none is
some_or_empty : (s : Set) (n : ℕ) → not (some_below s n) ≡ empty_below s n
unfolding some_below
some_or_empty s zero = refl
some_or_empty s (suc n) = grind (arith, common_steps, some_or_empty s n)

-- to have none of the first c decisions is to be empty below c
pub none_of_first : (s : Set) (c n : ℕ) → c ≤ n → not (some_below (λ x. s x && ltb x c) n) ≡ empty_below s c
unfolding some_below
none_of_first s c zero h = let e : 0 ≡ c = omega arith in ap (empty_below s) e
none_of_first s c (suc n) h =
    elim (cases_eq c (suc n)) [
      | inl same ↦
          (ap not (some_below_same (λ x. s x && ltb x c) s (suc n) (λ k l. and_held (s k) (ltb k c) (lt-ltb k c (omega arith)))) ∙ some_or_empty s (suc n) ∙ ap (empty_below s) (sym same))
      | inr other ↦
          (ap not (or_failed (some_below (λ x. s x && ltb x c) n) (s n && ltb n c) (and_right (s n) (ltb n c) (le-ltb n c (omega arith)))) ∙ none_of_first s c n (omega arith))
    ]

-- what stays with no reason among the first decisions is what has an empty reason
pub keep_empty_is : (s : Set) (c : ℕ) (resting : Bool) → c ≤ 64 → s ≡ (λ x. ltb x c) → (o : Option Exclusion)
    → keep_if (spared s resting) o ≡ keep_if (λ e. empty_below e.reason c && (resting || not e.rests)) o
keep_empty_is s c resting h first None = refl
keep_empty_is s c resting h first (Some e) =
    ap (λ (b : Bool). cond (b && (resting || not e.rests)) (Some e) None)
    (ap (λ (t : Set). not (some_below (λ x. e.reason x && t x) 64)) first ∙ none_of_first e.reason c 64 h)
