-- The number that every step raises: a digit for each front of the trail, from the empty one on, that counts the exclusions whose reasons lie within it.
use Rattle.std.proofs.Common.{◌≡◌, ℕ, suc, ◌+◌, ◌-◌, ◌*◌, ◌^◌, ◌<◌, ◌≤◌, Bool, true, false, not, ◌||◌, eqb, ltb, List, [], ◌∷◌, ◌++◌, length, Some, None, Decides, sum_by, Option, sym, refl, ap, ◌∙◌, mul-le-mul_right, mul_assoc, suc-mul, mul-lt-mul_of_pos_right, pow-suc, add-one, arith, length-append, pow-add}
use native.Mathlib.Nat.{pow-zero, pow-succ', one-le-pow}
use Rattle.std.proofs.lemmas.List.{append-nil}
use Rattle.std.proofs.lemmas.Bool.{false≢true, cond_both, ltb-true, lt-ltb}
use Rattle.std.proofs.lemmas.Bool.Decides.{Decides-below_and}
use Rattle.rules.specs.Plans.{Set, size_at, all_below}
use Rattle.rules.specs.declared.decision.Decision.{Decision}
use Rattle.account.specs.Accounts.{Entry, Exclusion, chosen}
use Rattle.account.proofs.Formed.{Distinct}
use Rattle.account.proofs.Trails.{chosen_here, size_known}
use Rattle.account.proofs.Cells.{below, below_le, below_rises, cells, cells_le, cells_less, cells_rises}

-- whether a decision of a set is on a trail
abbrev placed : Set → List Entry → ℕ → Bool
placed s es x = not (s x) || ltb 0 (chosen es x)

-- whether the decisions below n of a set lie within a trail
unfoldable pub lies : ℕ → List Entry → Set → Bool
lies n es s = all_below (placed s es) n

placed_true : (b : Bool) (k : ℕ) → (not b || ltb 0 k) ≡ true → b ≡ true → 0 < k
placed_true true k h e = ltb-true 0 k h
placed_true false k h e = absurd (false≢true e)

true_placed : (b : Bool) (k : ℕ) → (b ≡ true → 0 < k) → (not b || ltb 0 k) ≡ true
true_placed true k h = lt-ltb 0 k (h refl)
true_placed false k h = refl

module _ (n : ℕ) (es : List Entry) (s : Set) where
  pub lies_decides : Decides (lies n es s) ((x : ℕ) → x < n → s x ≡ true → 0 < chosen es x)
  unfolding lies
  lies_decides =
      Decides-below_and (placed s es) (λ x. s x ≡ true → 0 < chosen es x) (all_below (placed s es))
      (λ x. (placed_true (s x) (chosen es x), true_placed (s x) (chosen es x))) refl (λ x. refl) n

-- the exclusion of a cell lies within a trail
abbrev pub counted : ℕ → List Entry → Option Exclusion → Bool
counted n es None = false
counted n es (Some e) = lies n es e.reason

-- one more than the largest digit
unfoldable pub base : List Decision → ℕ
base ds = sum_by (λ (d : Decision). d.size) ds + 2

abbrev pub Excluded : Type 0
Excluded = ℕ → ℕ → Option Exclusion

-- how many exclusions lie within a trail
unfoldable pub inside : List Decision → Excluded → List Entry → ℕ
inside ds ex es = cells (λ d v. counted (length ds) es (ex d v)) ds

-- the digits as a number, the last digit that of the whole trail
abbrev pub digits : List Decision → Excluded → List Entry → ℕ
digits ds ex [] = inside ds ex [] + 1
digits ds ex (e ∷ es) = digits ds ex es * base ds + (inside ds ex (e ∷ es) + 1)

-- the digits, with zeros up to a place for each decision
unfoldable pub height : List Decision → Excluded → List Entry → ℕ
height ds ex es = digits ds ex es * base ds ^ (length ds - length es)

-- two powers as one
powers : (b x j k n : ℕ) → j + k ≡ n → x * b ^ j * b ^ k ≡ x * b ^ n
powers b x j k n e = mul_assoc x (b ^ j) (b ^ k) ∙ ap (λ (y : ℕ). x * y) (sym (pow-add b j k) ∙ ap (λ (y : ℕ). b ^ y) e)

-- an entry leaves every decision of a trail on it
pub chosen_more : (e : Entry) (es : List Entry) → 1 ≤ e.value → (x : ℕ) → 0 < chosen es x → 0 < chosen (e ∷ es) x
chosen_more e es h x k = cond_both (eqb x e.decision) e.value (chosen es x) (λ y. 0 < y) (λ _. h) (λ _. k)

module _ (ds : List Decision) where
  trail_le_chosen : (es : List Entry) → Distinct ds es → length es ≤ below (λ x. ltb 0 (chosen es x)) (length ds)
  trail_le_chosen [] h = omega arith
  trail_le_chosen (e ∷ es) h =
      let rise : below (λ x. ltb 0 (chosen es x)) (length ds) < below (λ x. ltb 0 (chosen (e ∷ es) x)) (length ds) =
      below_rises (λ x. ltb 0 (chosen es x)) (λ x. ltb 0 (chosen (e ∷ es) x))
      (λ x t. lt-ltb 0 (chosen (e ∷ es) x) (chosen_more e es h.1 x (ltb-true 0 (chosen es x) t)))
      e.decision (rw h.0 refl) (rw (chosen_here e es e.decision refl) (lt-ltb 0 e.value h.1)) (length ds) (size_known ds e.decision (omega arith)) in
      omega (arith, trail_le_chosen es h.3)

  pub trail_le : (es : List Entry) → Distinct ds es → length es ≤ length ds
  trail_le es h = omega (arith, trail_le_chosen es h, below_le (λ x. ltb 0 (chosen es x)) (length ds))

  -- what lies within a trail lies within a longer one
  lies_more : (e : Entry) (es : List Entry) → 1 ≤ e.value → (s : Set) → lies (length ds) es s ≡ true → lies (length ds) (e ∷ es) s ≡ true
  lies_more e es h s t =
      (lies_decides (length ds) (e ∷ es) s).1 (λ x k i. chosen_more e es h x ((lies_decides (length ds) es s).0 t x k i))

  -- an exclusion that lies within the trail stays
  abbrev pub Stays : Excluded → Excluded → List Entry → Type 0
  Stays ex new es = (d v : ℕ) (e : Exclusion) → ex d v ≡ Some e → lies (length ds) es e.reason ≡ true → new d v ≡ Some e

  module _ (ex new : Excluded) where
    stays_below : (e : Entry) (es : List Entry) → 1 ≤ e.value → Stays ex new (e ∷ es) → Stays ex new es
    stays_below e es h s d v x is t = s d v x is (lies_more e es h x.reason t)

    still_counted : (es : List Entry) → Stays ex new es → (d v : ℕ) (o : Option Exclusion) → ex d v ≡ o → counted (length ds) es o ≡ true → counted (length ds) es (new d v) ≡ true
    still_counted es s d v None is t = absurd (false≢true t)
    still_counted es s d v (Some e) is t = rw (s d v e is t) t

    inside_less : (es : List Entry) → Stays ex new es → inside ds ex es ≤ inside ds new es
    unfolding inside
    inside_less es s =
        cells_less (λ d v. counted (length ds) es (ex d v)) (λ d v. counted (length ds) es (new d v)) (λ d v. still_counted es s d v (ex d v) refl) ds

    pub inside_rises : (es : List Entry) → Stays ex new es → (d v : ℕ) (e : Exclusion) → ex d v ≡ None → new d v ≡ Some e → lies (length ds) es e.reason ≡ true → 1 ≤ v → v ≤ size_at ds d → inside ds ex es < inside ds new es
    unfolding inside
    inside_rises es s d v e was is t low high =
        cells_rises (λ d v. counted (length ds) es (ex d v)) (λ d v. counted (length ds) es (new d v)) (λ d v. still_counted es s d v (ex d v) refl) ds d v
        (rw was refl) (rw is t) low high

    digits_less : (es : List Entry) → Distinct ds es → Stays ex new es → digits ds ex es ≤ digits ds new es
    digits_less [] h s = omega (arith, inside_less [] s)
    digits_less (e ∷ es) h s =
        omega (arith, inside_less (e ∷ es) s, mul-le-mul_right (base ds) (digits_less es h.3 (stays_below e es h.1 s)))

    pub digits_rises : (es : List Entry) → Distinct ds es → Stays ex new es → inside ds ex es < inside ds new es → digits ds ex es < digits ds new es
    digits_rises [] h s k = omega arith
    digits_rises (e ∷ es) h s k =
        omega (arith, mul-le-mul_right (base ds) (digits_less es h.3 (stays_below e es h.1 s)))

  module _ (ex : Excluded) where
    -- a digit is below the base
    digit : (es : List Entry) → inside ds ex es + 2 ≤ base ds
    unfolding inside base
    digit es = omega (arith, cells_le (λ d v. counted (length ds) es (ex d v)) ds)

    -- further entries only append digits
    digits_low : (older newer : List Entry) → digits ds ex older * base ds ^ length newer ≤ digits ds ex (newer ++ older)
    digits_low older [] = rw pow-zero (omega arith)
    digits_low older (e ∷ es) = rw (pow-suc, ← mul_assoc) (omega (arith, mul-le-mul_right (base ds) (digits_low older es)))

    digits_high : (older newer : List Entry) → digits ds ex (newer ++ older) < (digits ds ex older + 1) * base ds ^ length newer
    digits_high older [] = rw pow-zero (omega arith)
    digits_high older (e ∷ es) =
        rw (pow-suc, ← mul_assoc)
        (omega (arith, digit (e ∷ (es ++ older)), rw (suc-mul (digits ds ex (es ++ older)) (base ds)) at (mul-le-mul_right (base ds) (digits_high older es))))

    positive : (n : ℕ) → 1 ≤ base ds ^ n
    unfolding base
    positive n = one-le-pow n (base ds) (omega arith)

    height_low : (older newer : List Entry) → length (newer ++ older) ≤ length ds → digits ds ex older * base ds ^ (length ds - length older) ≤ height ds ex (newer ++ older)
    unfolding height
    height_low older newer h =
        let len = length-append newer older in
        rw (← powers (base ds) (digits ds ex older) (length newer) (length ds - length (newer ++ older)) (length ds - length older) (omega arith))
        (mul-le-mul_right (base ds ^ (length ds - length (newer ++ older))) (digits_low older newer))

    height_high : (older newer : List Entry) → length (newer ++ older) ≤ length ds → height ds ex (newer ++ older) < (digits ds ex older + 1) * base ds ^ (length ds - length older)
    unfolding height
    height_high older newer h =
        let len = length-append newer older in
        rw (← powers (base ds) (digits ds ex older + 1) (length newer) (length ds - length (newer ++ older)) (length ds - length older) (omega arith))
        (mul-lt-mul_of_pos_right (digits_high older newer) (positive (length ds - length (newer ++ older))))

    -- the number stays below the base to the power of one more than the decisions
    pub height_below : (es : List Entry) → Distinct ds es → height ds ex es < base ds ^ (length ds + 1)
    height_below es h =
        let fits : length (es ++ []) ≤ length ds = rw (append-nil es) (trail_le es h) in
        let whole : length ds - 0 ≡ length ds = omega arith in
        let top = rw (append-nil es, whole) at (height_high [] es fits) in
        let first : digits ds ex [] + 1 ≤ base ds = omega (arith, digit []) in
        rw (add-one, pow-succ') (omega (arith, mul-le-mul_right (base ds ^ length ds) first))

  module _ (ex new : Excluded) (es : List Entry) (h : Distinct ds es) where
    -- more exclusions never lower it
    pub height_less : Stays ex new es → height ds ex es ≤ height ds new es
    unfolding height
    height_less s = mul-le-mul_right (base ds ^ (length ds - length es)) (digits_less ex new es h s)

    -- an entry raises it
    pub height_enters : Stays ex new es → (e : Entry) → length (e ∷ es) ≤ length ds → height ds ex es < height ds new (e ∷ es)
    unfolding height
    height_enters s e k =
        let room : length ds - length es ≡ suc (length ds - suc (length es)) = omega arith in
        let more : digits ds ex es * base ds < digits ds new (e ∷ es) = omega (arith, mul-le-mul_right (base ds) (digits_less ex new es h s)) in
        rw (room, pow-succ', ← mul_assoc) (mul-lt-mul_of_pos_right more (positive ex (length ds - suc (length es))))

  -- a digit that rises outweighs all later ones
  pub height_rises : (ex new : Excluded) (older newer newer' : List Entry) → length (newer ++ older) ≤ length ds → length (newer' ++ older) ≤ length ds → digits ds ex older < digits ds new older → height ds ex (newer ++ older) < height ds new (newer' ++ older)
  height_rises ex new older newer newer' h k r =
      omega (arith, height_high ex older newer h, height_low new older newer' k, mul-le-mul_right (base ds ^ (length ds - length older)) r, add-one (digits ds ex older))
