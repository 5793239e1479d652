-- What the searches up to a bound find.
use Rattle.std.proofs.Common.{◌≡◌, ℕ, zero, suc, ◌<◌, Bool, true, false, ◌||◌, Some, None, Option, sym, refl, ap, ◌∙◌, ap₂, inl, inr, not-suc-le-zero, arith}
use Rattle.std.specs.Option.{option_or}
use Rattle.std.proofs.lemmas.Bool.{cases_eq, or_cases, or_left, or_right}
use Rattle.sets.specs.Searches.{some_below, unless, smallest_outside}

-- tests that agree below a bound find the same there
pub some_below_same : (s t : ℕ → Bool) (n : ℕ) → ((k : ℕ) → k < n → s k ≡ t k) → some_below s n ≡ some_below t n
unfolding some_below
some_below_same s t zero same = refl
some_below_same s t (suc n) same =
    ap₂ (λ (x y : Bool). x || y) (some_below_same s t n (λ k h. same k (omega arith))) (same n (omega arith))

-- a test that holds of one below a bound
pub some_below_from : (t : ℕ → Bool) (n k : ℕ) → k < n → t k ≡ true → some_below t n ≡ true
unfolding some_below
some_below_from t zero k h e = absurd (not-suc-le-zero h)
some_below_from t (suc n) k h e =
    elim (cases_eq k n) [
      | inl same ↦ or_right (some_below t n) (t n) (ap t (sym same) ∙ e)
      | inr other ↦ or_left (some_below t n) (t n) (some_below_from t n k (omega arith) e)
    ]

-- one below the bound of which the test holds
pub some_below_found : (t : ℕ → Bool) (n : ℕ) → some_below t n ≡ true → (k : ℕ) × (k < n) × (t k ≡ true)
unfolding some_below
some_below_found t zero e = let z : ◌≡◌ {A = ℕ} 0 1 = cc in absurd (omega arith)
some_below_found t (suc n) e =
    elim (or_cases (some_below t n) (t n) e) [
      | inl below ↦ (let f = some_below_found t n below in (f.0, omega arith, f.2))
      | inr here ↦ (n, omega arith, here)
    ]

-- where a test holds of all up to a bound, none is outside
pub none_outside : (t : ℕ → Bool) (n : ℕ) → ((k : ℕ) → k < n → t (suc k) ≡ true) → smallest_outside t n ≡ None
unfolding smallest_outside
none_outside t zero all = refl
none_outside t (suc n) all =
    ap₂ (λ (o : Option ℕ) (b : Bool). option_or o (unless b (suc n))) (none_outside t n (λ k h. all k (omega arith))) (all n (omega arith))

-- the first of which a test fails is the smallest outside
pub first_outside : (t : ℕ → Bool) (n z : ℕ) → z < n → ((k : ℕ) → k < z → t (suc k) ≡ true) → t (suc z) ≡ false → smallest_outside t n ≡ Some (suc z)
unfolding smallest_outside
first_outside t zero z h all fails = absurd (not-suc-le-zero h)
first_outside t (suc n) z h all fails =
    elim (cases_eq z n) [
      | inl same ↦
          ap₂ (λ (o : Option ℕ) (b : Bool). option_or o (unless b (suc n)))
          (none_outside t n (λ k l. all k (omega arith))) (ap (λ (x : ℕ). t (suc x)) (sym same) ∙ fails)
          ∙ ap (λ (x : ℕ). Some (suc x)) (sym same)
      | inr other ↦ ap (λ (o : Option ℕ). option_or o (unless (t (suc n)) (suc n))) (first_outside t n z (omega arith) all fails)
    ]
