-- A loop over a list comes to a place.
use Rattle.std.proofs.Common.{◌≡◌, ℕ, zero, suc, ◌+◌, ◌<◌, List, [], ◌∷◌, add-one, arith, length, get_or, drop, ap, ◌∙◌}

-- what stands at a place, and behind it
pub at_front : {X : Type 0} (xs : List X) (i : ℕ) (x : X) (rest : List X) → drop i xs ≡ x ∷ rest → (i < length xs) × ((d : X) → get_or xs i d ≡ x) × (drop (i + 1) xs ≡ rest)
at_front {X} xs i x rest e = let (l, here, behind) = go xs i e in (l, here, ap (λ (n : ℕ). drop n xs) (add-one i) ∙ behind)
  where
    go : (xs : List X) (i : ℕ) → drop i xs ≡ x ∷ rest → (i < length xs) × ((d : X) → get_or xs i d ≡ x) × (drop (suc i) xs ≡ rest)
    go [] zero e = cc
    go [] (suc i) e = cc
    go (y ∷ xs) zero e = (omega arith, (λ d. cc), cc)
    go (y ∷ xs) (suc i) e = let (l, here, behind) = go xs i e in (omega arith, here, behind)
