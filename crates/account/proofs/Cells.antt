-- Counting: the numbers below a limit that pass a test, and the cells, a decision with one of its values, that do.
use Rattle.std.proofs.lemmas.Grind.{common_steps}
use Rattle.std.proofs.Common.{◌≡◌, ℕ, zero, suc, ◌+◌, ◌<◌, ◌≤◌, Bool, true, false, List, [], ◌∷◌, sum_by, sym, refl, ap, ◌∙◌, ⊎_elim, arith}
use Rattle.std.proofs.lemmas.Bool.{cases_eq, false≢true}
use Rattle.rules.specs.Plans.{size_at}
use Rattle.rules.specs.declared.decision.Decision.{Decision}

-- one for true
abbrev pub one : Bool → ℕ
one true = 1
one false = 0

-- how many numbers below n pass a test
abbrev pub below : (ℕ → Bool) → ℕ → ℕ
below t zero = 0
below t (suc n) = below t n + one (t n)

-- how many cells pass a test: the decisions of the list from 0, the values of each from 1
abbrev pub cells : (ℕ → ℕ → Bool) → List Decision → ℕ
cells t [] = 0
cells t (d ∷ ds) = below (λ i. t 0 (suc i)) d.size + cells (λ x. t (suc x)) ds

one_le : (b : Bool) → one b ≤ 1
one_le true = omega arith
one_le false = omega arith

one_less : (b c : Bool) → (b ≡ true → c ≡ true) → one b ≤ one c
one_less false c h = omega arith
one_less true true h = omega arith
one_less true false h = absurd (false≢true (h refl))

one_rises : (b c : Bool) → b ≡ false → c ≡ true → one b < one c
one_rises b c p q = rw (p, q) (omega arith)

pub below_le : (t : ℕ → Bool) (n : ℕ) → below t n ≤ n
below_le t zero = omega arith
below_le t (suc n) = omega (arith, below_le t n, one_le (t n))

module _ (t u : ℕ → Bool) (more : (x : ℕ) → t x ≡ true → u x ≡ true) where
  pub below_less : (n : ℕ) → below t n ≤ below u n
  below_less zero = omega arith
  below_less (suc n) = omega (arith, below_less n, one_less (t n) (u n) (more n))

  pub below_rises : (x : ℕ) → t x ≡ false → u x ≡ true → (n : ℕ) → x < n → below t n < below u n
  below_rises x p q zero h = omega arith
  below_rises x p q (suc n) h =
      ⊎_elim
      (λ (e : x ≡ n). let k : one (t n) < one (u n) = one_rises (t n) (u n) (ap t (sym e) ∙ p) (ap u (sym e) ∙ q) in omega (arith, below_less n))
      (λ (ne : x ≡ n → ⊥). omega (arith, below_rises x p q n (omega arith), one_less (t n) (u n) (more n)))
      (cases_eq x n)

pub cells_le : (t : ℕ → ℕ → Bool) (ds : List Decision) → cells t ds ≤ sum_by (λ (d : Decision). d.size) ds
cells_le t [] = omega arith
cells_le t (d ∷ ds) = grind (arith, common_steps, cells_le (λ x. t (suc x)) ds, below_le)

pub cells_less : (t u : ℕ → ℕ → Bool) → ((x v : ℕ) → t x v ≡ true → u x v ≡ true) → (ds : List Decision) → cells t ds ≤ cells u ds
cells_less t u more [] = omega arith
cells_less t u more (d ∷ ds) =
    omega (arith, below_less (λ i. t 0 (suc i)) (λ i. u 0 (suc i)) (λ i. more 0 (suc i)) d.size, cells_less (λ x. t (suc x)) (λ x. u (suc x)) (λ x. more (suc x)) ds)

pub cells_rises : (t u : ℕ → ℕ → Bool) → ((x v : ℕ) → t x v ≡ true → u x v ≡ true) → (ds : List Decision) (x v : ℕ) → t x v ≡ false → u x v ≡ true → 1 ≤ v → v ≤ size_at ds x → cells t ds < cells u ds
cells_rises t u more [] x v p q low high = omega arith
cells_rises t u more (d ∷ ds) x zero p q low high = omega arith
cells_rises t u more (d ∷ ds) zero (suc v) p q low high =
    omega (arith, below_rises (λ i. t 0 (suc i)) (λ i. u 0 (suc i)) (λ i. more 0 (suc i)) v p q d.size high, cells_less (λ x. t (suc x)) (λ x. u (suc x)) (λ x. more (suc x)) ds)
cells_rises t u more (d ∷ ds) (suc x) (suc v) p q low high =
    omega (arith, below_less (λ i. t 0 (suc i)) (λ i. u 0 (suc i)) (λ i. more 0 (suc i)) d.size, cells_rises (λ x. t (suc x)) (λ x. u (suc x)) (λ x. more (suc x)) ds x (suc v) p q low high)
