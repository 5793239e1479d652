-- What is found among the exclusions of one decision's values.
use Rattle.std.proofs.lemmas.Grind.{common_steps}
use Rattle.std.proofs.Common.{List, [], ◌∷◌, ◌++◌, ◌≡◌, ℕ, zero, suc, ◌<◌, ◌≤◌, min, Bool, false, not, ◌||◌, Option, sym, refl, ap, ◌∙◌, ap₂, arith}
use Rattle.std.specs.List.{fold, list_any, range_with_len}
use Rattle.std.proofs.lemmas.List.Folds.{list_any-append}
use Rattle.tables.proofs.Ranges.{next_in_range}
use Rattle.std.proofs.lemmas.List.Sums.{fold-append}
use Rattle.rules.specs.Plans.{Set}
use Rattle.account.specs.Accounts.{Exclusion, either, nobody}
use Rattle.account.specs.Calls.{count_free}
use Rattle.account.specs.Steps.{any_rests, is_free, reason_of, reasons, rests_on, smallest_free}
use Rattle.sets.proofs.BoolLaws.{or_failed}
use Rattle.sets.specs.Searches.{count_outside, smallest_outside}
use Rattle.tables.specs.Excluded.{exclusions_of, is_excluded}
use Rattle.tables.specs.declared.exclusions.Exclusions.{Exclusions}
use Rattle.tables.proofs.Cells.{exclusion_at}

-- a value is free that is not in its decision's set
pub free_at : (x : Exclusions) (d v : ℕ) → d < 64 → is_free (exclusions_of x d v) ≡ not (is_excluded x d v)
free_at x d v h = grind (arith, common_steps, exclusion_at)

module _ (ex : ℕ → Option Exclusion) (t : ℕ → Bool) (free : (v : ℕ) → is_free (ex v) ≡ not (t v)) where
  -- the smallest value outside a set is the smallest free one
  pub smallest_free_lem : (n : ℕ) → smallest_outside t n ≡ smallest_free ex n
  unfolding smallest_outside
  smallest_free_lem zero = refl
  smallest_free_lem (suc n) = grind (arith, common_steps, smallest_free_lem n)

  -- as many values are free as are outside a set
  pub count_free_lem : (n : ℕ) → count_outside t n ≡ count_free ex n
  unfolding count_outside
  count_free_lem zero = refl
  count_free_lem (suc n) = grind (arith, common_steps, count_free_lem n)

-- a size of 16 at most
pub whole_size : (size : ℕ) → size ≤ 16 → min size 16 ≡ size
whole_size size h = omega arith

-- the reasons of values, gathered one after the other
abbrev pub gathered : (ℕ → Option Exclusion) → List ℕ → Set
gathered ex vs = fold (λ s v. either s (reason_of (ex v))) nobody vs

-- one more value's reason
pub gathered_more : (ex : ℕ → Option Exclusion) (vs : List ℕ) (v : ℕ) (all after : Set) → all ≡ gathered ex vs → after ≡ either all (reason_of (ex v)) → after ≡ gathered ex (vs ++ v ∷ [])
gathered_more ex vs v all after before new =
    new ∙ ap (λ (s : Set). either s (reason_of (ex v))) before ∙ sym (fold-append (λ s w. either s (reason_of (ex w))) nobody vs (v ∷ []))

-- the reasons of the values 1 to n
pub gathered_is : (ex : ℕ → Option Exclusion) (n : ℕ) → gathered ex (range_with_len 1 n) ≡ reasons ex n
gathered_is ex zero = refl
gathered_is ex (suc n) =
    ap (gathered ex) (next_in_range 1 n (suc n) (omega arith)) ∙ fold-append (λ s v. either s (reason_of (ex v))) nobody (range_with_len 1 n) (suc n ∷ [])
    ∙ ap (λ (s : Set). either s (reason_of (ex (suc n)))) (gathered_is ex n)

-- whether one of the values 1 to n rests
pub any_rests_is : (ex : ℕ → Option Exclusion) (n : ℕ) → list_any (λ v. rests_on (ex v)) (range_with_len 1 n) ≡ any_rests ex n
any_rests_is ex zero = refl
any_rests_is ex (suc n) =
    ap (list_any (λ v. rests_on (ex v))) (next_in_range 1 n (suc n) (omega arith)) ∙ list_any-append (λ v. rests_on (ex v)) (range_with_len 1 n) (suc n ∷ [])
    ∙ ap₂ (λ (a b : Bool). a || b) (any_rests_is ex n) (or_failed (rests_on (ex (suc n))) false refl)
