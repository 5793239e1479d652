-- What each part of a step finds, by its outcome.
use Rattle.std.proofs.lemmas.Grind.{common_steps}
use Rattle.std.proofs.Common.{◌≡◌, ℕ, zero, suc, ◌<◌, ◌≤◌, Bool, true, false, cond, not, ◌&&◌, ◌||◌, eqb, ltb, ◌⊎◌, List, [], ◌∷◌, Some, None, Option, refl, ⊎_elim, arith}
use Rattle.std.specs.Option.{option_or}
use Rattle.std.specs.List.{ContainsAt as Has, AllByRecursion}
use Rattle.std.proofs.lemmas.Bool.{cond_both, cases_eq, and_parts, and_cases, or_cases, or_left, or_right, both_ways, eq-eqb, not-true, not-false, ltb-false, ltb-true}
use Rattle.rules.specs.Conditions.{Plan, names, condition, met}
use Rattle.rules.specs.Plans.{Book, Set, enables, on_at}
use Rattle.rules.specs.Refusals.{when}
use Rattle.rules.specs.declared.row.Row.{Row}
use Rattle.account.specs.Accounts.{Exclusion, nobody}
use Rattle.account.specs.Steps.{waits, prefer, pick, enabled_by, support, first_met, is_free, smallest_free, reason_of, rests_on, reasons, any_rests}
use Rattle.account.proofs.Meeting.{met_chosen}

pub has_first : (r : Row) (rs : List Row) → Has (r ∷ rs) r
has_first r rs = (0, omega arith, λ d. refl)

pub has_later : (s : Row) (rs : List Row) (r : Row) → Has rs r → Has (s ∷ rs) r
has_later s rs r h = (suc h.0, omega (arith, h.1), h.2)

-- the pick: one of the first n that waits, or none of them does
abbrev pub Picked : (ℕ → Bool) → ℕ → Option ℕ → Type 0
Picked waiting n (Some d) = (d < n) × (waiting d ≡ true)
Picked waiting n None = (d : ℕ) → d < n → waiting d ≡ false

preferred : (ranks : ℕ → ℕ) (waiting : ℕ → Bool) (n : ℕ) (t : Bool) → waiting n ≡ t → (o : Option ℕ) → Picked waiting n o → Picked waiting (suc n) (prefer ranks t n o)
preferred ranks waiting n false w None h = λ d l. ⊎_elim (λ (q : d ≡ n). rw q w) (λ (ne : d ≡ n → ⊥). h d (omega arith)) (cases_eq d n)
preferred ranks waiting n false w (Some d) h = (omega (arith, h.0), h.1)
preferred ranks waiting n true w None h = (omega arith, w)
preferred ranks waiting n true w (Some d) h = cond_both (ltb (ranks n) (ranks d)) (Some n) (Some d) (Picked waiting (suc n)) (λ t. (omega arith, w)) (λ t. (omega (arith, h.0), h.1))

pub picked : (ranks : ℕ → ℕ) (waiting : ℕ → Bool) (n : ℕ) → Picked waiting n (pick ranks waiting n)
picked ranks waiting zero = λ d l. absurd (omega arith)
picked ranks waiting (suc n) = preferred ranks waiting n (waiting n) refl (pick ranks waiting n) (picked ranks waiting n)

-- what waits is off the plan
pub waits_idle : (b : Book) (p : Plan) (d : ℕ) → waits b p d ≡ true → p d ≡ 0
waits_idle b p d w = omega (arith, ltb-false 0 (p d) (not-true (ltb 0 (p d)) (and_parts (not (ltb 0 (p d))) (on_at b.decisions d || enables b.activates p d) w).0))

-- what waits is on, or enabled
pub waits_why : (b : Book) (p : Plan) (d : ℕ) → waits b p d ≡ true → (on_at b.decisions d ≡ true) ⊎ (enables b.activates p d ≡ true)
waits_why b p d w = or_cases (on_at b.decisions d) (enables b.activates p d) (and_parts (not (ltb 0 (p d))) (on_at b.decisions d || enables b.activates p d) w).1

-- what does not wait but is on or enabled has a value
pub waits_not : (b : Book) (p : Plan) (d : ℕ) → waits b p d ≡ false → (on_at b.decisions d || enables b.activates p d) ≡ true → 0 < p d
waits_not b p d w h =
    ⊎_elim (λ q. ltb-true 0 (p d) (not-false (ltb 0 (p d)) q)) (λ q. absurd (both_ways (on_at b.decisions d || enables b.activates p d) q h)) (and_cases (not (ltb 0 (p d))) (on_at b.decisions d || enables b.activates p d) w)

-- a met rule enables its target
pub enables_has : (rs : List Row) (p : Plan) (r : Row) (d : ℕ) → d ≡ r.target → Has rs r → met p r ≡ true → enables rs p d ≡ true
enables_has [] p r d q h e = absurd (omega (arith, h.1))
enables_has (s ∷ rs) p r d q (zero, l, at) e =
    or_left (eqb d s.target && met p s) (enables rs p d) (rw (at s, eq-eqb d r.target q, e) refl)
enables_has (s ∷ rs) p r d q (suc k, l, at) e = or_right (eqb d s.target && met p s) (enables rs p d) (enables_has rs p r d q (k, omega (arith, l), at) e)

-- the rule behind an enabled decision
pub record Enabled (rs : List Row) (p : Plan) (d : ℕ) (s : Set) : Type 0 where
  pub row : Row
  pub is_held : Has rs row
  pub targets : row.target ≡ d
  pub is_met : met p row ≡ true
  pub supports : s ≡ names (condition row)

pub enabled : (rs : List Row) (p : Plan) (d : ℕ) → enables rs p d ≡ true → Enabled rs p d (enabled_by rs p d)
enabled [] p d h = absurd (both_ways false refl h)
enabled (r ∷ rs) p d h = go (eqb d r.target && met p r) refl h (enabled rs p d)
  where
    go : (t : Bool) → (eqb d r.target && met p r) ≡ t → (t || enables rs p d) ≡ true → (enables rs p d ≡ true → Enabled rs p d (enabled_by rs p d)) → Enabled (r ∷ rs) p d (cond t (names (condition r)) (enabled_by rs p d))
    go true e g rest = grind (arith, common_steps)
    go false e g rest =
        let k = rest g in
        record { row = k.row; is_held = has_later r rs k.row k.is_held; targets = k.targets; is_met = k.is_met; supports = k.supports }

enabled_by_chosen : (rs : List Row) (p : Plan) (d x : ℕ) → enabled_by rs p d x ≡ true → 0 < p x
enabled_by_chosen [] p d x h = absurd (both_ways false refl h)
enabled_by_chosen (r ∷ rs) p d x h = go (eqb d r.target && met p r) refl h (enabled_by_chosen rs p d x)
  where
    go : (t : Bool) → (eqb d r.target && met p r) ≡ t → cond t (names (condition r)) (enabled_by rs p d) x ≡ true → (enabled_by rs p d x ≡ true → 0 < p x) → 0 < p x
    go true e g rest = met_chosen r p (and_parts (eqb d r.target) (met p r) e).1 x g
    go false e g rest = rest g

-- the support of a decision is on the plan
pub support_chosen : (b : Book) (p : Plan) (d x : ℕ) → support b p d x ≡ true → 0 < p x
support_chosen b p d x =
    cond_both (on_at b.decisions d) nobody (enabled_by b.activates p d) (λ (s : Set). s x ≡ true → 0 < p x) (λ e h. absurd (both_ways false refl h)) (λ e h. enabled_by_chosen b.activates p d x h)

-- the first met row: none is, or one that is, and that no plan with none met meets
abbrev pub First : List Row → Plan → Option Row → Type 0
First rs p None = AllByRecursion (λ r. met p r ≡ false) rs
First rs p (Some r) = (met p r ≡ true) × Has rs r

pub first_met_lem : (rs : List Row) (p : Plan) → First rs p (first_met rs p)
first_met_lem [] p = tt
first_met_lem (r ∷ rs) p = cond_both (met p r) (Some r) (first_met rs p) (First (r ∷ rs) p) (λ e. (e, has_first r rs)) (λ e. later e (first_met rs p) (first_met_lem rs p))
  where
    later : met p r ≡ false → (o : Option Row) → First rs p o → First (r ∷ rs) p o
    later e None h = (e, h)
    later e (Some s) h = (h.0, has_later r rs s h.1)

-- the smallest free value: one of the first n that has no exclusion, or each has one
abbrev pub Free : (ℕ → Option Exclusion) → ℕ → Option ℕ → Type 0
Free ex n (Some v) = (1 ≤ v) × (v ≤ n) × (ex v ≡ None)
Free ex n None = (v : ℕ) → 1 ≤ v → v ≤ n → (e : Exclusion) × (ex v ≡ Some e)

pub smallest : (ex : ℕ → Option Exclusion) (n : ℕ) → Free ex n (smallest_free ex n)
smallest ex zero = λ v l u. absurd (omega arith)
smallest ex (suc n) = go (smallest_free ex n) (smallest ex n) (ex (suc n)) refl
  where
    go : (o : Option ℕ) → Free ex n o → (x : Option Exclusion) → ex (suc n) ≡ x → Free ex (suc n) (option_or o (when (is_free x) (suc n)))
    go (Some v) h x q = (h.0, omega (arith, h.1), h.2)
    go None h None q = (omega arith, omega arith, q)
    go None h (Some e) q = λ v l u. ⊎_elim (λ (s : v ≡ suc n). (e, rw s q)) (λ (ne : v ≡ suc n → ⊥). h v l (omega arith)) (cases_eq v (suc n))

-- a decision in the reasons is in one of them
pub reasons_in : (ex : ℕ → Option Exclusion) (n x : ℕ) → reasons ex n x ≡ true → (v : ℕ) × (e : Exclusion) × (ex v ≡ Some e) × (e.reason x ≡ true)
reasons_in ex zero x h = absurd (both_ways false refl h)
reasons_in ex (suc n) x h = ⊎_elim (reasons_in ex n x) (go (ex (suc n)) refl) (or_cases (reasons ex n x) (reason_of (ex (suc n)) x) h)
  where
    go : (o : Option Exclusion) → ex (suc n) ≡ o → reason_of o x ≡ true → (v : ℕ) × (e : Exclusion) × (ex v ≡ Some e) × (e.reason x ≡ true)
    go None q t = absurd (both_ways false refl t)
    go (Some e) q t = (suc n, e, q, t)

-- each reason is within the reasons
pub reasons_of : (ex : ℕ → Option Exclusion) (n v : ℕ) (e : Exclusion) → 1 ≤ v → v ≤ n → ex v ≡ Some e → (x : ℕ) → e.reason x ≡ true → reasons ex n x ≡ true
reasons_of ex zero v e l u q x t = absurd (omega arith)
reasons_of ex (suc n) v e l u q x t =
    ⊎_elim (λ (s : v ≡ suc n). or_right (reasons ex n x) (reason_of (ex (suc n)) x) (rw (← s, q) t))
    (λ (ne : v ≡ suc n → ⊥). or_left (reasons ex n x) (reason_of (ex (suc n)) x) (reasons_of ex n v e l (omega arith) q x t))
    (cases_eq v (suc n))

-- some exclusion rests, if any does
pub rests_in : (ex : ℕ → Option Exclusion) (n : ℕ) → any_rests ex n ≡ true → (v : ℕ) × (e : Exclusion) × (ex v ≡ Some e) × (e.rests ≡ true)
rests_in ex zero h = absurd (both_ways false refl h)
rests_in ex (suc n) h = ⊎_elim (rests_in ex n) (go (ex (suc n)) refl) (or_cases (any_rests ex n) (rests_on (ex (suc n))) h)
  where
    go : (o : Option Exclusion) → ex (suc n) ≡ o → rests_on o ≡ true → (v : ℕ) × (e : Exclusion) × (ex v ≡ Some e) × (e.rests ≡ true)
    go None q t = absurd (both_ways false refl t)
    go (Some e) q t = (suc n, e, q, t)

pub rests_of : (ex : ℕ → Option Exclusion) (n v : ℕ) (e : Exclusion) → 1 ≤ v → v ≤ n → ex v ≡ Some e → e.rests ≡ true → any_rests ex n ≡ true
rests_of ex zero v e l u q t = absurd (omega arith)
rests_of ex (suc n) v e l u q t =
    ⊎_elim (λ (s : v ≡ suc n). or_right (any_rests ex n) (rests_on (ex (suc n))) (rw (← s, q) t))
    (λ (ne : v ≡ suc n → ⊥). or_left (any_rests ex n) (rests_on (ex (suc n))) (rests_of ex n v e l (omega arith) q t))
    (cases_eq v (suc n))
