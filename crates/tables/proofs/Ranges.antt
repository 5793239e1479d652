-- The numbers of a range.
use Rattle.std.proofs.Common.{◌≡◌, ℕ, suc, ◌+◌, List, [], ◌∷◌, ◌++◌, map, sym, ap, ◌∙◌, add-one}
use Rattle.std.proofs.lemmas.List.{map-id}
use Rattle.std.proofs.lemmas.List.FromFn.{map-range_with_len_more}
use Rattle.std.specs.List.{range_with_len}

-- so many numbers from one on, and the next
pub next_in_range : (a n j : ℕ) → a + n ≡ j → range_with_len a (suc n) ≡ range_with_len a n ++ j ∷ []
next_in_range a n j e =
    sym (map-id (range_with_len a (suc n))) ∙ ap (λ (k : ℕ). map (λ (x : ℕ). x) (range_with_len a k)) (sym (add-one n))
    ∙ map-range_with_len_more (λ (x : ℕ). x) a n j e ∙ ap (λ (xs : List ℕ). xs ++ j ∷ []) (map-id (range_with_len a n))
