-- Pairs gathered one by one, five at most.
use Rattle.std.proofs.lemmas.Grind.{common_steps}
use Rattle.std.proofs.Common.{◌≡◌, ℕ, zero, suc, ◌+◌, ◌≤◌, List, [], ◌∷◌, ◌++◌, length, take, Ok, Err, Result, sym, refl, ap, ◌∙◌, arith}
use Rattle.std.proofs.lemmas.List.{append_assoc, append-nil, take_all}
use Rattle.rules.specs.declared.literal.Literal.{Literal}
use Rattle.statements.specs.Forms.{pair_of}
use Rattle.statements.specs.Statements.{formed, read_pairs, then}
use Rattle.statements.specs.Views.{on_ok}
use Rattle.statements.specs.declared.fault.Fault.{Fault}

-- what is cut off does not matter to a later cut
take_cut : {X : Type 0} (n : ℕ) (xs ys : List X) → take n (take n xs ++ ys) ≡ take n (xs ++ ys)
take_cut zero xs ys = refl
take_cut (suc n) [] ys = refl
take_cut (suc n) (x ∷ xs) ys = ap (λ l. x ∷ l) (take_cut n xs ys)

-- the pairs so far and those to come, five at most
abbrev pub gathered : ℕ → ℕ → List (List ℕ) → List Literal → Result (List Literal) Fault
gathered n c fs ps = on_ok (λ ls. take 5 (ps ++ ls)) (read_pairs n c fs)

module _ (n c : ℕ) (ps : List Literal) where
  pub bad_pair : (f : List ℕ) (fs gs : List (List ℕ)) (e : Fault) → fs ≡ f ∷ gs → formed n c (pair_of f) ≡ Err e → gathered n c fs ps ≡ Err e
  unfolding read_pairs
  bad_pair f fs gs e p q = grind (arith, common_steps)

  pub one_pair : (f : List ℕ) (fs gs : List (List ℕ)) (l : Literal) (d : ℕ) (qs : List Literal) → fs ≡ f ∷ gs → formed n c (pair_of f) ≡ Ok l → d ≡ c + length f + 1 → qs ≡ take 5 (ps ++ l ∷ []) → gathered n c fs ps ≡ gathered n d gs qs
  unfolding read_pairs
  one_pair f fs gs l d qs p q at e =
      ap (λ (l : List (List ℕ)). gathered n c l ps) p
      ∙ ap (λ (r : Result Literal Fault). on_ok (λ ls. take 5 (ps ++ ls)) (then r (λ l. then (read_pairs n (c + length f + 1) gs) (λ ls. Ok (l ∷ ls))))) q
      ∙ onward (read_pairs n (c + length f + 1) gs) ∙ ap (λ (k : ℕ). gathered n k gs qs) (sym at)
    where
      same : (ls : List Literal) → take 5 (ps ++ l ∷ ls) ≡ take 5 (qs ++ ls)
      same ls = ap (take 5) (sym (append_assoc ps (l ∷ []) ls)) ∙ sym (take_cut 5 (ps ++ l ∷ []) ls) ∙ ap (λ (rs : List Literal). take 5 (rs ++ ls)) (sym e)

      onward : (r : Result (List Literal) Fault) → on_ok (λ ls. take 5 (ps ++ ls)) (then r (λ ls. Ok (l ∷ ls))) ≡ on_ok (λ ls. take 5 (qs ++ ls)) r
      onward (Ok ls) = ap Ok (same ls)
      onward (Err x) = refl

  pub no_pair : (fs : List (List ℕ)) → fs ≡ [] → length ps ≤ 5 → gathered n c fs ps ≡ Ok ps
  unfolding read_pairs
  no_pair fs p few = ap (λ (l : List (List ℕ)). gathered n c l ps) p ∙ ap Ok (ap (take 5) (append-nil ps) ∙ take_all 5 ps few)
