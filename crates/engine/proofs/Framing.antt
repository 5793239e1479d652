-- The layout of a book of bytes.
use Rattle.std.proofs.lemmas.Grind.{common_steps}
use Rattle.std.proofs.Common.{◌≡◌, ℕ, zero, suc, ◌+◌, ◌*◌, ◌/◌, ◌%◌, List, [], ◌∷◌, length, take, drop, Some, refl, ap, ◌∙◌, arith}
use Rattle.std.proofs.lemmas.List.{drop-take}
use Rattle.std.specs.List.{IsSplitAt}
use Rattle.std.specs.Simd.{first_chunks}
use Rattle.engine.specs.Stated.{layout_in}

-- what stands behind so many twos is no part of them
twos : (k : ℕ) (xs : List ℕ) → first_chunks 2 k (take (2 * k) xs) ≡ first_chunks 2 k xs
twos zero xs = refl
twos (suc k) xs =
    let more : 2 * suc k ≡ suc (suc (2 * k)) = omega arith in
    let again : suc (suc (2 * k)) ≡ 2 + 2 * k = omega arith in
    ap (λ (n : ℕ). take 2 (take n xs) ∷ first_chunks 2 k (drop 2 (take n xs))) more
    ∙ ap (λ (p : List ℕ). p ∷ first_chunks 2 k (drop 2 (take (suc (suc (2 * k))) xs))) (first (2 * k) xs)
    ∙ ap (λ (n : ℕ). take 2 xs ∷ first_chunks 2 k (drop 2 (take n xs))) again
    ∙ ap (λ (ys : List ℕ). take 2 xs ∷ first_chunks 2 k ys) (drop-take 2 (2 * k) xs)
    ∙ ap (λ (ps : List (List ℕ)). take 2 xs ∷ ps) (twos k (drop 2 xs))
  where
    first : (n : ℕ) (xs : List ℕ) → take 2 (take (suc (suc n)) xs) ≡ take 2 xs
    first n [] = refl
    first n (x ∷ []) = refl
    first n (x ∷ y ∷ xs) = refl

-- bytes cut behind the decisions, with whole records there
pub cut : (book : List ℕ) (n : ℕ) (bytes front back : List ℕ) → book ≡ n ∷ bytes → IsSplitAt bytes (2 * n) front back → length back % 16 ≡ 0
    → Some (record { decisions = first_chunks 2 (length front / 2) front; records = first_chunks 16 (length back / 16) back }) ≡ layout_in book
cut book n bytes front back is split whole =
    let half : length front / 2 ≡ n = omega (arith, split.3) in
    grind (arith, common_steps, twos n bytes)
