-- What a retreat takes from a trail, and that it raises the number.
use Rattle.std.proofs.lemmas.Grind.{common_steps}
use Rattle.std.proofs.Common.{◌≡◌, ℕ, ◌<◌, ◌≤◌, Bool, true, false, not, ◌&&◌, eqb, List, [], ◌∷◌, ◌++◌, length, Some, None, Option, refl, ap, ◌∙◌, ⊎_elim, arith}
use Rattle.std.specs.List.{AllByRecursion}
use Rattle.std.proofs.lemmas.Bool.{cases_Bool, both_ways, cond_both, eqb-true, cond-false, and_parts, not-true, or_from}
use Rattle.rules.specs.Plans.{Set, size_at}
use Rattle.rules.specs.declared.decision.Decision.{Decision}
use Rattle.account.specs.Accounts.{Entry, chosen, except, has_any}
use Rattle.account.specs.Steps.{Retreat, retreat, follow, relearn, unless_left}
use Rattle.account.proofs.Formed.{Distinct}
use Rattle.account.proofs.Trails.{Within, chosen_here, chosen_other, size_known}
use Rattle.account.proofs.Digits.{Excluded, Stays, lies, lies_decides, height, chosen_more, trail_le, inside_rises, digits_rises, height_rises}

module _ (ds : List Decision) (s : Set) where
  -- the trail parts at the latest blamed entry: older entries stay, and of the newer ones some
  record Parted (es : List Entry) (r : Retreat) : Type 0 where
    newer : List Entry
    staying : List Entry
    older : List Entry
    whole : es ≡ newer ++ older
    rest : r.stays ≡ staying ++ older
    shorter : length r.stays ≤ length es
    distinct : Distinct ds older
    culprit_low : 1 ≤ r.culprit.value
    culprit_high : r.culprit.value ≤ size_at ds r.culprit.decision
    culprit_blamed : s r.culprit.decision ≡ true
    latest : (x : ℕ) → s x ≡ true → chosen es x ≡ chosen (r.culprit ∷ older) x
    below : (x : ℕ) → 0 < chosen older x → 0 < chosen es x
    gone : AllByRecursion (λ x. (x < length ds) × (chosen older x ≡ 0)) r.left

  abbrev Outcome : List Entry → Option Retreat → Type 0
  Outcome es None = Unit {0}
  Outcome es (Some r) = Parted es r

  module _ (e : Entry) (es : List Entry) (h : Distinct ds (e ∷ es)) where
    at_first : s e.decision ≡ true → Parted (e ∷ es) (record { culprit = e; left = e.decision ∷ []; stays = es })
    at_first t =
        record {
          newer = e ∷ [];
          staying = [];
          older = es;
          whole = refl;
          rest = refl;
          shorter = omega arith;
          distinct = h.3;
          culprit_low = h.1;
          culprit_high = h.2;
          culprit_blamed = t;
          latest = λ x _. refl;
          below = chosen_more e es h.1;
          gone = ((size_known ds e.decision (omega arith), h.0), tt);
        }

    module _ (t : s e.decision ≡ false) (r : Retreat) (p : Parted es r) where
      later : (x : ℕ) → s x ≡ true → chosen (e ∷ es) x ≡ chosen (r.culprit ∷ p.older) x
      later x k =
          chosen_other e es x (λ (q : x ≡ e.decision). both_ways (s x) (ap s q ∙ t) k) ∙ p.latest x k

      off : chosen p.older e.decision ≡ 0
      off = grind (arith, common_steps)

      leaves : Parted (e ∷ es) (record { culprit = r.culprit; left = e.decision ∷ r.left; stays = r.stays })
      leaves =
          record {
            newer = e ∷ p.newer;
            staying = p.staying;
            older = p.older;
            whole = ap (λ (l : List Entry). e ∷ l) p.whole;
            rest = p.rest;
            shorter = omega (arith, p.shorter);
            distinct = p.distinct;
            culprit_low = p.culprit_low;
            culprit_high = p.culprit_high;
            culprit_blamed = p.culprit_blamed;
            latest = later;
            below = λ x k. chosen_more e es h.1 x (p.below x k);
            gone = ((size_known ds e.decision (omega arith), off), p.gone);
          }

      remains : Parted (e ∷ es) (record { culprit = r.culprit; left = r.left; stays = e ∷ r.stays })
      remains =
          record {
            newer = e ∷ p.newer;
            staying = e ∷ p.staying;
            older = p.older;
            whole = ap (λ (l : List Entry). e ∷ l) p.whole;
            rest = ap (λ (l : List Entry). e ∷ l) p.rest;
            shorter = omega (arith, p.shorter);
            distinct = p.distinct;
            culprit_low = p.culprit_low;
            culprit_high = p.culprit_high;
            culprit_blamed = p.culprit_blamed;
            latest = later;
            below = λ x k. chosen_more e es h.1 x (p.below x k);
            gone = p.gone;
          }

    followed : s e.decision ≡ false → (o : Option Retreat) → Outcome es o → Outcome (e ∷ es) (follow e o)
    followed t None p = tt
    followed t (Some r) p = grind (arith, common_steps, leaves, remains)

  parts : (es : List Entry) → Distinct ds es → Outcome es (retreat s es)
  unfolding retreat
  parts [] h = tt
  parts (e ∷ es) h = grind (arith, common_steps, parts es h.3, at_first, followed)

  parted : (es : List Entry) → Distinct ds es → (r : Retreat) → retreat s es ≡ Some r → Parted es r
  parted es h r is = rw is at (parts es h)

  module _ (es : List Entry) (h : Distinct ds es) (ex : Excluded) (rests : Bool) (within : Within es s) (r : Retreat) (p : Parted es r)
      (free : (d : ℕ) → 0 < chosen es d → ex d (chosen es d) ≡ None) where
    culprit_chosen : chosen es r.culprit.decision ≡ r.culprit.value
    culprit_chosen = p.latest r.culprit.decision p.culprit_blamed ∙ chosen_here r.culprit p.older r.culprit.decision refl

    was_free : ex r.culprit.decision r.culprit.value ≡ None
    was_free = rw culprit_chosen at (free r.culprit.decision (rw culprit_chosen p.culprit_low))

    none_left : (t : Set) → lies (length ds) p.older t ≡ true → (left : List ℕ) → AllByRecursion (λ x. (x < length ds) × (chosen p.older x ≡ 0)) left → has_any t left ≡ false
    none_left t k [] g = refl
    none_left t k (x ∷ xs) g =
        or_from (t x) (has_any t xs)
        (⊎_elim (λ (y : t x ≡ true). absurd (omega (arith, (lies_decides (length ds) p.older t).0 k x g.0.0 y))) (λ (y : t x ≡ false). y) (cases_Bool (t x)))
        (none_left t k xs g.1)

    stay : Stays ds ex (relearn ex s rests r) p.older
    stay d v e is k =
        cond_both (eqb d r.culprit.decision && eqb v r.culprit.value) (Some (record { reason = except s r.culprit.decision; rests = rests }))
        (unless_left r.left (ex d v)) (λ y. y ≡ Some e)
        (λ t.
        let both = and_parts (eqb d r.culprit.decision) (eqb v r.culprit.value) t in
        let dd = eqb-true d r.culprit.decision both.0 in
        let vv = eqb-true v r.culprit.value both.1 in
        let was = was_free in
        let z : ◌≡◌ {A = ℕ} 0 1 = cc in
        absurd (omega arith))
        (λ _. rw is (cond-false (has_any e.reason r.left) None (Some e) (none_left e.reason k r.left p.gone)))

    learnt : relearn ex s rests r r.culprit.decision r.culprit.value ≡ Some (record { reason = except s r.culprit.decision; rests = rests })
    learnt = grind (arith, common_steps)

    reason_lies : lies (length ds) p.older (except s r.culprit.decision) ≡ true
    reason_lies = (lies_decides (length ds) p.older (except s r.culprit.decision)).1
        (λ x _ k.
        let both = and_parts (s x) (not (eqb x r.culprit.decision)) k in
        let other = cond-false (eqb x r.culprit.decision) r.culprit.value (chosen p.older x) (not-true (eqb x r.culprit.decision) both.1) in
        omega (arith, within x both.0, p.latest x both.0, other))

    rises : height ds ex es < height ds (relearn ex s rests r) r.stays
    rises =
        let short = trail_le ds es h in
        let long : length (p.newer ++ p.older) ≤ length ds = rw (← p.whole) (trail_le ds es h) in
        let less : length (p.staying ++ p.older) ≤ length ds = rw (← p.rest) (omega (arith, p.shorter)) in
        rw (p.whole, p.rest)
        (height_rises ds ex (relearn ex s rests r) p.older p.newer p.staying long less
        (digits_rises ds ex (relearn ex s rests r) p.older p.distinct stay
        (inside_rises ds ex (relearn ex s rests r) p.older stay r.culprit.decision r.culprit.value (record { reason = except s r.culprit.decision; rests = rests }) was_free learnt reason_lies p.culprit_low p.culprit_high)))

  -- a retreat raises the number
  pub retreat_rises : (es : List Entry) → Distinct ds es → (ex : Excluded) (rests : Bool) → Within es s → (r : Retreat) → retreat s es ≡ Some r → ((d : ℕ) → 0 < chosen es d → ex d (chosen es d) ≡ None) → height ds ex es < height ds (relearn ex s rests r) r.stays
  retreat_rises es h ex rests within r is free = rises es h ex rests within r (parted es h r is) free
