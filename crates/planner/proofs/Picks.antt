-- The decision that is picked, of a list of those that wait.
use Rattle.std.proofs.lemmas.Grind.{common_steps}
use Rattle.std.proofs.Common.{◌≡◌, ℕ, zero, suc, ◌<◌, ◌≤◌, Bool, true, false, cond, ltb, List, [], ◌∷◌, filter, length, MatchOption, Some, None, Option, sym, refl, ap, ◌∙◌, subst, ap₂, arith}
use Rattle.std.specs.Borrow.{Bor}
use Rattle.std.specs.Fn.{CalledAt}
use Rattle.std.specs.Iterator.{Drains, DrainsIf, KeyTurn, PicksMinByKey}
use Rattle.std.specs.List.{FoldsTo, fold, range_with_len}
use Rattle.std.specs.Option.{option_map}
use Rattle.std.specs.Ordering.{min_by_ordering, nat_cmp}
use Rattle.std.proofs.lemmas.Iterator.{YieldsList, items_from_drains}
use Rattle.std.proofs.lemmas.List.{map-id}
use Rattle.std.proofs.lemmas.List.Elements.{filter-append}
use Rattle.std.proofs.lemmas.List.Sums.{fold-append}
use denote.Param.Members.{Mut}
use Rattle.account.proofs.Finds.{Picked, picked}
use Rattle.account.specs.Steps.{pick, prefer}
use Rattle.rules.specs.Plans.{Book}
use Rattle.tables.proofs.Ranges.{next_in_range}
use Rattle.tables.specs.declared.domain.Domain.{Domain}
use Rattle.planner.specs.Books.{IsDomain}

-- the lesser of two is the second only where it is below the first
lesser : {A : Type 0} (a b : ℕ) (x z : A) → min_by_ordering (nat_cmp a b) x z ≡ cond (ltb b a) z x
lesser {A} a b x z = grind (arith, common_steps)

module _ (ranks : ℕ → ℕ) where
  -- a waiting decision more
  abbrev more : Option ℕ → ℕ → Option ℕ
  more o d = prefer ranks true d o

  -- the pick of the first n is what is preferred of those that wait
  preferred_of : (waiting : ℕ → Bool) (n : ℕ) → fold more None (filter waiting (range_with_len 0 n)) ≡ pick ranks waiting n
  preferred_of waiting zero = refl
  preferred_of waiting (suc n) =
      ap (λ (xs : List ℕ). fold more None (filter waiting xs)) (next_in_range 0 n n (omega arith))
      ∙ ap (fold more None) (filter-append waiting (range_with_len 0 n) (n ∷ []))
      ∙ fold-append more None (filter waiting (range_with_len 0 n)) (filter waiting (n ∷ []))
      ∙ ap (λ (o : Option ℕ). fold more o (filter waiting (n ∷ []))) (preferred_of waiting n)
      ∙ last (waiting n) (pick ranks waiting n)
    where
      last : (b : Bool) (o : Option ℕ) → fold more o (cond b (n ∷ []) []) ≡ prefer ranks b n o
      last true o = refl
      last false o = refl

  -- what decides only below n
  pub pick_same : (t u : ℕ → Bool) (n : ℕ) → ((d : ℕ) → d < n → t d ≡ u d) → pick ranks t n ≡ pick ranks u n
  pick_same t u zero h = refl
  pick_same t u (suc n) h = ap₂ (λ (b : Bool) (o : Option ℕ). prefer ranks b n o) (h n (omega arith)) (pick_same t u n (λ d l. h d (omega arith)))

  module _ {F : Type 0} (g : Mut F (Bor ℕ × Unit {0}) ℕ) (f : F) (ranked : (x k : ℕ) (q : F) → CalledAt g f x k q → (q ≡ f) × (k ≡ ranks x)) where
    -- the turns over later decisions
    turns : (xs : List ℕ) (p : F) (k x : ℕ) (q : F × ℕ) (y : ℕ) → p ≡ f → k ≡ ranks x
        → FoldsTo {P = (F × ℕ) × ℕ} (KeyTurn min_by_ordering min_by_ordering g nat_cmp) ((p, k), x) xs (q, y) → fold more (Some x) xs ≡ Some y
    turns [] p k x q y e h c = ap (λ (z : (F × ℕ) × ℕ). Some z.1) c
    turns (z ∷ zs) p k x q y e h (j, (kz, o, called, cmp, key, item), rest) =
        let (same, rank) = ranked z kz j.0.0 (subst (λ (w : F). CalledAt g w z kz j.0.0) e called) in
        let order : o ≡ nat_cmp (ranks x) (ranks z) = sym cmp ∙ ap₂ nat_cmp h rank in
        let chosen : j.1 ≡ cond (ltb (ranks z) (ranks x)) z x = item ∙ ap (λ t. min_by_ordering t x z) order ∙ lesser (ranks x) (ranks z) x z in
        let its : j.0.1 ≡ ranks j.1 =
        key ∙ ap₂ (λ t (w : ℕ × ℕ). min_by_ordering t w.0 w.1) order (ap₂ (λ (a b : ℕ). (a, b)) h rank) ∙ lesser (ranks x) (ranks z) (ranks x) (ranks z)
        ∙ rank_of (ltb (ranks z) (ranks x)) z x ∙ ap ranks (sym chosen) in
        ap (λ (o : Option ℕ). fold more o zs) (one (ltb (ranks z) (ranks x)) z x ∙ ap Some (sym chosen)) ∙ turns zs j.0.0 j.0.1 j.1 q y same its rest
      where
        rank_of : (t : Bool) (z x : ℕ) → cond t (ranks z) (ranks x) ≡ ranks (cond t z x)
        rank_of true z x = refl
        rank_of false z x = refl

        one : (t : Bool) (z x : ℕ) → cond t (Some z) (Some x) ≡ Some (cond t z x)
        one true z x = refl
        one false z x = refl

    drained_if : {S : Type 0} (steps : S → Option ℕ → S → Type 0) (s : S) (xs : List ℕ) → Drains steps s xs → DrainsIf steps (Unit {0}) s xs
    drained_if steps s xs (u, (t, y, h)) = (t, y, λ _. (u, h))

    -- the first waiting decision of least rank is the pick
    pub least_picked : {S : Type 0} {steps : S → Option ℕ → S → Type 0} {s : S} (waiting : ℕ → Bool) (n : ℕ) (r : Option ℕ)
        → PicksMinByKey steps g nat_cmp s f r → YieldsList steps (λ x. x) s (filter waiting (range_with_len 0 n)) → r ≡ pick ranks waiting n
    least_picked {steps = steps} {s} waiting n None drained all =
        let items = items_from_drains [] (drained_if steps s [] drained) all in
        ap (fold more None) items ∙ preferred_of waiting n
    least_picked {steps = steps} {s} waiting n (Some y) (x, xs, k, f', q, drained, called, turned) all =
        let items = sym (map-id (x ∷ xs)) ∙ items_from_drains (x ∷ xs) (drained_if steps s (x ∷ xs) drained) all in
        let (same, rank) = ranked x k f' called in
        sym (turns xs f' k x q y same rank turned) ∙ ap (fold more None) items ∙ preferred_of waiting n

-- the domain of a picked decision
pub picked_domain : (b : Book) (ranks : ℕ → ℕ) (waiting : ℕ → Bool) (o : Option ℕ) (r : Option Domain) → o ≡ pick ranks waiting (length b.decisions)
    → MatchOption o (r ≡ None) (λ d. MatchOption r (length b.decisions ≤ d) (λ x. (x.decision ≡ d) × IsDomain b x)) → option_map (λ x. x.decision) r ≡ pick ranks waiting (length b.decisions)
picked_domain b ranks waiting None r e h = ap (option_map (λ (x : Domain). x.decision)) h ∙ e
picked_domain b ranks waiting (Some d) None e h =
    absurd (omega (arith, h, (subst (Picked waiting (length b.decisions)) (sym e) (picked ranks waiting (length b.decisions))).0))
picked_domain b ranks waiting (Some d) (Some x) e h = ap Some h.0 ∙ e
