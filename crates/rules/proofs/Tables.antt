-- Tables of 64 places that a loop fills by a function of the place.
use Rattle.std.proofs.lemmas.Grind.{common_steps}
use Rattle.std.proofs.Common.{◌≡◌, ℕ, zero, suc, ◌+◌, ◌-◌, ◌<◌, ◌≤◌, ◌++◌, List, length, replicate, take, get_or, sym, ◌∙◌, subst, ⊎_elim, arith}
use mathlib.Core.Path.{fun_ext}
use lib.ListN.{get_or-eq_default}
use Rattle.std.proofs.lemmas.Bool.{cases_eq, cases_lt}
use Rattle.std.specs.Array.{IsFromFnResult, IsFromFnResultFrom}
use Rattle.std.specs.Fn.{Mut, Called}

-- the places below n hold what f says
abbrev pub Filled : {X : Type 0} → List X → (ℕ → X) → X → ℕ → Type 0
Filled xs f d n = (length xs ≡ 64) × ((k : ℕ) → k < n → get_or xs k d ≡ f k)

-- all places
pub filled_all : {X : Type 0} (xs : List X) (f : ℕ → X) (d : X) (n : ℕ) → 64 ≤ n → Filled xs f d n → ((k : ℕ) → 64 ≤ k → f k ≡ d) → (λ (k : ℕ). get_or xs k d) ≡ f
filled_all xs f d n l (long, all) past =
    fun_ext (λ (k : ℕ). ⊎_elim (λ (h : k < 64). all k (omega arith)) (λ (h : 64 ≤ k). get_or-eq_default xs d (omega arith) ∙ sym (past k h)) (cases_lt k 64))

-- a list cut or filled up with blanks to a length, at each of its places
pub filled_up : {X : Type 0} (n : ℕ) (xs : List X) (b : X) (k : ℕ) → k < n → get_or (take n xs ++ replicate (n - length xs) b) k b ≡ get_or xs k b
filled_up n xs b k l = grind (arith, common_steps)

-- what `array::from_fn` makes of a closure that no call changes, and that computes h
module _ {F B : Type 0} (g : Mut F (ℕ × Unit {0}) B) (h : ℕ → B) (f : F) (ys : List B) (d : B) (computes : (i : ℕ) (y : B) (q : F) → Called g f (i, tt) y q → (y ≡ h i) × (q ≡ f)) where
  made_from : (n i : ℕ) → IsFromFnResultFrom g f ys i n → (k : ℕ) → i ≤ k → k < i + n → get_or ys k d ≡ h k
  made_from zero i made k low high = absurd (omega arith)
  made_from (suc n) i (q, y, element, called, rest) k low high =
      let (value, same) = computes i y q called in
      ⊎_elim (λ (e : k ≡ i). rw e (element.1 d ∙ value))
      (λ (ne : k ≡ i → ⊥). made_from n (i + 1) (subst (λ (p : F). IsFromFnResultFrom g p ys (i + 1) n) same rest) k (omega arith) (omega arith)) (cases_eq k i)

  pub made_each : (n : ℕ) → IsFromFnResult g f ys n → (k : ℕ) → k < n → get_or ys k d ≡ h k
  made_each n made k l = made_from n 0 made.each k (omega arith) (omega arith)
