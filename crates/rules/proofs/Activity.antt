-- The active decisions that are worked out are the least closed set.
use Rattle.std.proofs.lemmas.Grind.{common_steps}
use Rattle.std.proofs.Common.{◌≡◌, ℕ, zero, suc, ◌+◌, ◌<◌, ◌≤◌, Bool, true, false, cond, ◌&&◌, ◌||◌, eqb, ◌⊎◌, List, [], ◌∷◌, length, refl, subst, inl, inr, ⊎_elim, zero-le, arith}
use mathlib.Core.Path.{fun_ext}
use Rattle.std.proofs.lemmas.Bool.{and_parts, and_from, or_cases, or_left, or_right, eqb-true, eq-eqb, false≢true, both_ways}
use Rattle.std.proofs.ByRecursion.{All-weaker}
use Rattle.std.specs.List.{AllByRecursion}
use Rattle.rules.specs.Conditions.{Plan, has, meets, met, condition}
use Rattle.rules.specs.Plans.{Book, Set, within, Closed, Active, enables, grown, rounds, active, on_at}
use Rattle.rules.specs.declared.literal.Literal.{Literal}
use Rattle.rules.specs.declared.row.Row.{Row}

-- one set lies in another
abbrev Inside : Set → Set → Type 0
Inside s t = (d : ℕ) → s d ≡ true → t d ≡ true

-- a larger set meets what a smaller one does
has_more : (s t : Set) (p : Plan) (l : Literal) → Inside s t → has (within s p) l ≡ true → has (within t p) l ≡ true
has_more s t p l sub h = grind (arith, common_steps)

meets_more : (s t : Set) (p : Plan) (ls : List Literal) → Inside s t → meets (within s p) ls ≡ true → meets (within t p) ls ≡ true
meets_more s t p [] sub h = refl
meets_more s t p (l ∷ ls) sub h =
    let (here, later) = and_parts (has (within s p) l) (meets (within s p) ls) h in
    and_from (has (within t p) l) (meets (within t p) ls) (has_more s t p l sub here) (meets_more s t p ls sub later)

-- what holds of every met rule's target holds of every enabled decision
pub enables_target : (rs : List Row) (q : Plan) (t : Set) (d : ℕ) → AllByRecursion (λ r. met q r ≡ true → t r.target ≡ true) rs → enables rs q d ≡ true → t d ≡ true
enables_target [] q t d all h = absurd (false≢true h)
enables_target (r ∷ rs) q t d all h =
    ⊎_elim (λ (e : (eqb d r.target && met q r) ≡ true).
    let (same, k) = and_parts (eqb d r.target) (met q r) e in
    rw (eqb-true d r.target same) (all.0 k))
    (λ (e : enables rs q d ≡ true). enables_target rs q t d all.1 e) (or_cases (eqb d r.target && met q r) (enables rs q d) h)

-- a round stays inside every closed set
grown_inside : (b : Book) (p : Plan) (s t : Set) → Closed b p t → Inside s t → Inside (grown b.activates p s) t
grown_inside b p s t closed sub d h =
    ⊎_elim (sub d)
    (λ (e : enables b.activates (within s p) d ≡ true).
    enables_target b.activates (within s p) t d
    (All-weaker (λ r. met (within t p) r ≡ true → t r.target ≡ true) (λ r. met (within s p) r ≡ true → t r.target ≡ true) (λ r f k. f (meets_more s t p (condition r) sub k)) b.activates closed.enabled) e)
    (or_cases (s d) (enables b.activates (within s p) d) h)

rounds_inside : (b : Book) (p : Plan) (t : Set) → Closed b p t → (n : ℕ) → Inside (rounds n b.activates p (on_at b.decisions)) t
rounds_inside b p t closed zero = closed.marked
rounds_inside b p t closed (suc n) = grown_inside b p (rounds n b.activates p (on_at b.decisions)) t closed (rounds_inside b p t closed n)

-- what is worked out is active
pub active_sound : (b : Book) (p : Plan) (d : ℕ) → active b p d ≡ true → Active b p d
active_sound b p d h = λ s closed. rounds_inside b p s closed (length b.decisions) d h

-- how many decisions below n a set has
unfoldable count : Set → ℕ → ℕ
count s zero = 0
count s (suc n) = count s n + cond (s n) 1 0

one_or_none : (b : Bool) → cond b 1 0 ≤ 1
one_or_none true = omega arith
one_or_none false = omega arith

count_most : (s : Set) (n : ℕ) → count s n ≤ n
unfolding count
count_most s zero = zero-le
count_most s (suc n) = omega (arith, count_most s n, one_or_none (s n))

-- where one set lies in another, either they agree below n or the other has more there
agree_or_more : (s t : Set) → Inside s t → (n : ℕ) → (((d : ℕ) → d < n → t d ≡ true → s d ≡ true) × (count s n ≤ count t n)) ⊎ (count s n < count t n)
unfolding count
agree_or_more s t sub zero = inl ((λ d h k. absurd (omega arith)), zero-le)
agree_or_more s t sub (suc n) = grind (arith, common_steps, agree_or_more s t sub n)

-- every activate rule's target is one of the first n decisions
abbrev pub Targets : ℕ → List Row → Type 0
Targets n rs = AllByRecursion (λ r. r.target < n) rs

-- nothing past those is enabled
enables_known : (rs : List Row) (q : Plan) (n d : ℕ) → Targets n rs → enables rs q d ≡ true → d < n
enables_known [] q n d known h = absurd (false≢true h)
enables_known (r ∷ rs) q n d known h =
    ⊎_elim (λ (e : (eqb d r.target && met q r) ≡ true). rw (eqb-true d r.target (and_parts (eqb d r.target) (met q r) e).0) known.0)
    (λ (e : enables rs q d ≡ true). enables_known rs q n d known.1 e) (or_cases (eqb d r.target && met q r) (enables rs q d) h)

module _ (rs : List Row) (p : Plan) (n : ℕ) (known : Targets n rs) where
  -- a round alters nothing, or adds a decision below n
  stable_or_more : (s : Set) → (grown rs p s ≡ s) ⊎ (count s n < count (grown rs p s) n)
  stable_or_more s = ⊎_elim (λ h. inl (fun_ext (λ d. same h.0 d (s d) refl))) inr (agree_or_more s (grown rs p s) (λ d h. or_left (s d) (enables rs (within s p) d) h) n)
    where
      same : ((d : ℕ) → d < n → grown rs p s d ≡ true → s d ≡ true) → (d : ℕ) (b : Bool) → s d ≡ b → (b || enables rs (within s p) d) ≡ b
      same old d true e = refl
      same old d false e =
          go (enables rs (within s p) d) refl
        where
          go : (c : Bool) → enables rs (within s p) d ≡ c → c ≡ false
          go false f = refl
          go true f = absurd (both_ways (s d) e (old d (enables_known rs (within s p) n d known f) (or_right (s d) (enables rs (within s p) d) f)))

  stable_or_many : (s : Set) (k : ℕ) → (grown rs p (rounds k rs p s) ≡ rounds k rs p s) ⊎ (k ≤ count (rounds k rs p s) n)
  stable_or_many s zero = inr zero-le
  stable_or_many s (suc k) = grind (arith, common_steps, stable_or_many s k, stable_or_more)

  -- n rounds are enough
  pub rounds_stable : (s : Set) → grown rs p (rounds n rs p s) ≡ rounds n rs p s
  rounds_stable s = grind (arith, common_steps, count_most, stable_or_more, stable_or_many)

rounds_more : (rs : List Row) (p : Plan) (s : Set) (n d : ℕ) → s d ≡ true → rounds n rs p s d ≡ true
rounds_more rs p s zero d h = h
rounds_more rs p s (suc n) d h = or_left (rounds n rs p s d) (enables rs (within (rounds n rs p s) p) d) (rounds_more rs p s n d h)

-- each met rule's target is enabled
enables_each : (rs : List Row) (q : Plan) → AllByRecursion (λ r. met q r ≡ true → enables rs q r.target ≡ true) rs
enables_each [] q = tt
enables_each (r ∷ rs) q = (
  λ h. or_left (eqb r.target r.target && met q r) (enables rs q r.target) (and_from (eqb r.target r.target) (met q r) (eq-eqb r.target r.target refl) h),
  All-weaker (λ x. met q x ≡ true → enables rs q x.target ≡ true) (λ x. met q x ≡ true → enables (r ∷ rs) q x.target ≡ true)
      (λ x f h. or_right (eqb x.target r.target && met q r) (enables rs q x.target) (f h)) rs (enables_each rs q),
)

-- what is worked out is closed
pub active_closed : (b : Book) (p : Plan) → Targets (length b.decisions) b.activates → Closed b p (active b p)
active_closed b p known =
    record {
      marked = λ d h. rounds_more b.activates p (on_at b.decisions) (length b.decisions) d h;
      enabled =
          All-weaker (λ r. met (within (active b p) p) r ≡ true → enables b.activates (within (active b p) p) r.target ≡ true) (λ r. met (within (active b p) p) r ≡ true → active b p r.target ≡ true)
          (λ r f h. subst (λ (s : Set). s r.target ≡ true) (rounds_stable b.activates p (length b.decisions) known (on_at b.decisions))
          (or_right (active b p r.target) (enables b.activates (within (active b p) p) r.target) (f h)))
          b.activates (enables_each b.activates (within (active b p) p));
    }

-- what is active is worked out
pub active_complete : (b : Book) (p : Plan) → Targets (length b.decisions) b.activates → (d : ℕ) → Active b p d → active b p d ≡ true
active_complete b p known d h = h (active b p) (active_closed b p known)

-- a decision that is marked on is one of those that there are
pub on_known : (b : Book) (d : ℕ) → on_at b.decisions d ≡ true → d < length b.decisions
on_known b d h = grind (arith, common_steps)

rounds_known : (b : Book) (p : Plan) (n d : ℕ) → Targets (length b.decisions) b.activates → rounds n b.activates p (on_at b.decisions) d ≡ true → d < length b.decisions
rounds_known b p zero d known h = on_known b d h
rounds_known b p (suc n) d known h =
    let s = rounds n b.activates p (on_at b.decisions) in
    ⊎_elim (rounds_known b p n d known) (enables_known b.activates (within s p) (length b.decisions) d known)
    (or_cases (s d) (enables b.activates (within s p) d) h)

-- only decisions that there are are active
pub active_known : (b : Book) (p : Plan) (d : ℕ) → Targets (length b.decisions) b.activates → active b p d ≡ true → d < length b.decisions
active_known b p d known h = rounds_known b p (length b.decisions) d known h
