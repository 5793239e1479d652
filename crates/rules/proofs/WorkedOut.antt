-- The answer of judge that is worked out holds, and no other.
use Rattle.std.proofs.Common.{◌≡◌, ℕ, zero, suc, ◌<◌, ◌≤◌, false, ltb, ◌↔◌, List, [], ◌∷◌, length, position, Some, None, Ok, Err, Option, Result, sym, refl, ap, ◌∙◌, subst, ⊎_elim, arith}
use Rattle.std.proofs.lemmas.Grind.{common_steps}
use Rattle.std.proofs.lemmas.Bool.{both_ways, cases_eq, cases_lt}
use Rattle.std.proofs.lemmas.Iterator.Adapters.{position_from-zero}
use Rattle.std.specs.Option.{option_map, option_or}
use Rattle.std.proofs.lemmas.Option.{none-some}
use Rattle.std.specs.List.{AllByRecursion, position_from}
use Rattle.measure.specs.Meaning.{Meaning}
use Rattle.rules.specs.Conditions.{Plan, plan_of, met}
use Rattle.rules.specs.Judging.{Answered, Breaks, Fits, FitsBelow, FirstMet, Judged, book_of, judge_refusal, open_refusal, rows_refusal}
use Rattle.rules.specs.Plans.{Active, Book, Lawful, active, cost, size_at}
use Rattle.rules.specs.declared.decision.Decision.{Decision}
use Rattle.rules.specs.Refusals.{when}
use Rattle.rules.specs.Searches.{misfit_at}
use Rattle.rules.specs.Verdicts.{answer_of, breach_of, first_below, error_or}
use Rattle.rules.specs.declared.refusal.Refusal.{Refusal}
use Rattle.rules.specs.declared.refusal.Refusal.TheVariants.{ShortPlan}
use Rattle.rules.specs.declared.row.Row.{Row}
use Rattle.rules.specs.declared.verdict.Breach.{Breach}
use Rattle.rules.specs.declared.verdict.Breach.TheVariants.{NotActive, NotChosen, OutOfRange, Forbidden}
use Rattle.rules.proofs.Activity.{Targets, active_complete, active_known}
use Rattle.rules.proofs.Grounds.{option_or_none}
use Rattle.rules.proofs.ByKind.{forbids}
use Rattle.rules.proofs.Verdicts.{found_forbidden, found_misfit, found_nothing, targets_known}

-- two places of which neither lies before the other
one_place : (d e : ℕ) → (d < e → ⊥) → (e < d → ⊥) → d ≡ e
one_place d e h k = ⊎_elim (λ l. absurd (h l)) (λ g. ⊎_elim (λ l. absurd (k l)) (λ f. omega (arith, g, f)) (cases_lt e d)) (cases_lt d e)

module _ (b : Book) (p : Plan) where
  unfit_active : (d : ℕ) → 0 < p d → (Active b p d → ⊥) → Fits b p d → ⊥
  unfit_active d l idle fit = idle (fit.only_active l)

  unfit_chosen : (d : ℕ) → p d ≡ 0 → Active b p d → Fits b p d → ⊥
  unfit_chosen d e act fit = omega (arith, fit.all_active act, e)

  unfit_range : (d : ℕ) → size_at b.decisions d < p d → Fits b p d → ⊥
  unfit_range d l fit = omega (arith, fit.in_range, l)

  -- a value of 0 is not past a size
  over : (d e : ℕ) → d ≡ e → p d ≡ 0 → size_at b.decisions e < p e → ⊥
  over d e same none l = let z : p e ≡ 0 = subst (λ (x : ℕ). p x ≡ 0) same none in omega (arith, z, l)

-- a row that is met is not one that none is
not_met : (rs : List Row) (p : Plan) (k : ℕ) → FirstMet rs p k → AllByRecursion (λ r. met p r ≡ false) rs → ⊥
not_met [] p k h none = absurd (omega (arith, h.0))
not_met (r ∷ rs) p zero h none = both_ways (met p r) none.0 (h.2 r)
not_met (r ∷ rs) p (suc k) h none = not_met rs p k (omega (arith, h.0), h.1.1, h.2) none.1

one_first : (rs : List Row) (p : Plan) (k j : ℕ) → FirstMet rs p k → FirstMet rs p j → k ≡ j
one_first [] p k j h g = absurd (omega (arith, h.0))
one_first (r ∷ rs) p zero zero h g = refl
one_first (r ∷ rs) p zero (suc j) h g = absurd (both_ways (met p r) g.1.0 (h.2 r))
one_first (r ∷ rs) p (suc k) zero h g = absurd (both_ways (met p r) h.1.0 (g.2 r))
one_first (r ∷ rs) p (suc k) (suc j) h g = ap suc (one_first rs p k j (omega (arith, h.0), h.1.1, h.2) (omega (arith, g.0), g.1.1, g.2))

module _ (b : Book) (p : Plan) (known : Targets (length b.decisions) b.activates) (idle : (d : ℕ) → length b.decisions ≤ d → p d ≡ 0) where
  chosen_known : (d : ℕ) → 0 < p d → d < length b.decisions
  chosen_known d l = ⊎_elim (λ k. k) (λ g. absurd (omega (arith, idle d g))) (cases_lt d (length b.decisions))

  active_below : (d : ℕ) → Active b p d → d < length b.decisions
  active_below d h = active_known b p d known (active_complete b p known d h)

  -- the decision of a breach is the first at fault
  abbrev Faulty : ℕ → Type 0
  Faulty d = FitsBelow b p d × (Fits b p d → ⊥) × (d < length b.decisions)

  not_active : (d : ℕ) → Breaks b p (NotActive d) → Faulty d
  not_active d h = (h.0, unfit_active b p d h.1 h.2, chosen_known d h.1)

  not_chosen : (d : ℕ) → Breaks b p (NotChosen d) → Faulty d
  not_chosen d h = (h.0, unfit_chosen b p d h.1 h.2, active_below d h.2)

  out_of_range : (d : ℕ) → Breaks b p (OutOfRange d) → Faulty d
  out_of_range d h = (h.0, unfit_range b p d h.2, active_below d h.1)

  one_faulty : (d e : ℕ) → Faulty d → Faulty e → d ≡ e
  one_faulty d e h g = one_place d e (λ l. h.1 (g.0 d l)) (λ l. g.1 (h.0 e l))

  -- a decision at fault comes before every forbid rule
  no_forbidden : {X : Type 0} (d k : ℕ) → Faulty d → Breaks b p (Forbidden k) → X
  no_forbidden d k h g = absurd (h.1 (g.0 d h.2))

  moved : (d e : ℕ) → d ≡ e → Active b p d → Active b p e
  moved d e same h = subst (Active b p) same h

  one_breach : (x y : Breach) → Breaks b p x → Breaks b p y → x ≡ y
  one_breach (NotActive d) (NotActive e) h g = ap NotActive (one_faulty d e (not_active d h) (not_active e g))
  one_breach (NotActive d) (NotChosen e) h g = absurd (h.2 (moved e d (one_faulty e d (not_chosen e g) (not_active d h)) g.2))
  one_breach (NotActive d) (OutOfRange e) h g = absurd (h.2 (moved e d (one_faulty e d (out_of_range e g) (not_active d h)) g.1))
  one_breach (NotActive d) (Forbidden k) h g = no_forbidden d k (not_active d h) g
  one_breach (NotChosen d) (NotActive e) h g = absurd (g.2 (moved d e (one_faulty d e (not_chosen d h) (not_active e g)) h.2))
  one_breach (NotChosen d) (NotChosen e) h g = ap NotChosen (one_faulty d e (not_chosen d h) (not_chosen e g))
  one_breach (NotChosen d) (OutOfRange e) h g = absurd (over b p d e (one_faulty d e (not_chosen d h) (out_of_range e g)) h.1 g.2)
  one_breach (NotChosen d) (Forbidden k) h g = no_forbidden d k (not_chosen d h) g
  one_breach (OutOfRange d) (NotActive e) h g = absurd (g.2 (moved d e (one_faulty d e (out_of_range d h) (not_active e g)) h.1))
  one_breach (OutOfRange d) (NotChosen e) h g = absurd (over b p e d (one_faulty e d (not_chosen e g) (out_of_range d h)) g.1 h.2)
  one_breach (OutOfRange d) (OutOfRange e) h g = ap OutOfRange (one_faulty d e (out_of_range d h) (out_of_range e g))
  one_breach (OutOfRange d) (Forbidden k) h g = no_forbidden d k (out_of_range d h) g
  one_breach (Forbidden k) (NotActive e) h g = no_forbidden e k (not_active e g) h
  one_breach (Forbidden k) (NotChosen e) h g = no_forbidden e k (not_chosen e g) h
  one_breach (Forbidden k) (OutOfRange e) h g = no_forbidden e k (out_of_range e g) h
  one_breach (Forbidden k) (Forbidden j) h g = ap Forbidden (one_first b.forbids p k j h.1 g.1)

-- what is lawful breaks nothing
lawful_unbroken : (b : Book) (p : Plan) (x : Breach) → Lawful b p → Breaks b p x → ⊥
lawful_unbroken b p (NotActive d) l h = h.2 (l.only_active d h.1)
lawful_unbroken b p (NotChosen d) l h = omega (arith, l.all_active d h.2, h.1)
lawful_unbroken b p (OutOfRange d) l h = omega (arith, l.in_range d, h.2)
lawful_unbroken b p (Forbidden k) l h = not_met b.forbids p k h.1 l.unforbidden

-- a plan over n decisions is idle past them
plan_idle : (n : ℕ) (bytes : List ℕ) (d : ℕ) → n ≤ d → plan_of n bytes d ≡ 0
plan_idle n bytes d l = grind (arith, common_steps)

module _ {C : Type 0} (m : Meaning C) (ds : List Decision) (rs : List Row) (bytes : List ℕ) where
  one_verdict : judge_refusal ds rs bytes ≡ None → (v w : Result C Breach) → Judged m (book_of ds rs) (plan_of (length ds) bytes) v → Judged m (book_of ds rs) (plan_of (length ds) bytes) w → v ≡ w
  one_verdict ok (Ok c) (Ok d) h g = ap Ok (h.1 ∙ sym g.1)
  one_verdict ok (Ok c) (Err y) h g = absurd (lawful_unbroken (book_of ds rs) (plan_of (length ds) bytes) y h.0 g)
  one_verdict ok (Err x) (Ok d) h g = absurd (lawful_unbroken (book_of ds rs) (plan_of (length ds) bytes) x g.0 h)
  one_verdict ok (Err x) (Err y) h g =
      let parts = option_or_none (open_refusal ds) (option_or (rows_refusal ds rs) (when (ltb (length bytes) (length ds)) ShortPlan)) ok in
      let known = (option_or_none (rows_refusal ds rs) (when (ltb (length bytes) (length ds)) ShortPlan) parts.1).0 in
      ap Err (one_breach (book_of ds rs) (plan_of (length ds) bytes) (targets_known ds rs known) (plan_idle (length ds) bytes) x y h g)

  one_answer : (v w : Result (Result C Breach) Refusal) → Answered m ds rs bytes v → Answered m ds rs bytes w → v ≡ w
  one_answer (Ok v) (Ok w) h g = ap Ok (one_verdict h.0 v w h.1 g.1)
  one_answer (Ok v) (Err e) h g = absurd (none-some e (sym h.0 ∙ g))
  one_answer (Err e) (Ok w) h g = absurd (none-some e (sym g.0 ∙ h))
  one_answer (Err e) (Err f) h g = let q : e ≡ f = cc in ap Err q

-- where nothing is found below n, there is nothing
none_below : {X : Type 0} (f : ℕ → Option X) (n : ℕ) → first_below f n ≡ None → (d : ℕ) → d < n → f d ≡ None
none_below f zero h d l = absurd (omega arith)
none_below f (suc n) h d l =
    let parts = option_or_none (first_below f n) (f n) h in
    ⊎_elim (λ (e : d ≡ n). rw e parts.1) (λ (ne : d ≡ n → ⊥). none_below f n parts.0 d (omega arith)) (cases_eq d n)

-- what is found is the first
first_found : {X : Type 0} (f : ℕ → Option X) (n : ℕ) (x : X) → first_below f n ≡ Some x → (d : ℕ) × (d < n) × ((e : ℕ) → e < d → f e ≡ None) × (f d ≡ Some x)
first_found f zero x h = absurd (none-some x h)
first_found f (suc n) x h = go (first_below f n) refl (first_found f n x) (none_below f n) h
  where
    go : (o : Option _) → first_below f n ≡ o → (first_below f n ≡ Some x → (d : ℕ) × (d < n) × ((e : ℕ) → e < d → f e ≡ None) × (f d ≡ Some x))
        → (first_below f n ≡ None → (d : ℕ) → d < n → f d ≡ None) → option_or o (f n) ≡ Some x → (d : ℕ) × (d < suc n) × ((e : ℕ) → e < d → f e ≡ None) × (f d ≡ Some x)
    go (Some y) e found none k = let (d, l, before, here) = found (e ∙ k) in (d, omega arith, before, here)
    go None e found none k = (n, omega arith, none e, k)

module _ {C : Type 0} (m : Meaning C) (ds : List Decision) (rs : List Row) (bytes : List ℕ) where
  abbrev the_book : Book
  the_book = book_of ds rs

  abbrev the_plan : Plan
  the_plan = plan_of (length ds) bytes

  abbrev misfits : ℕ → Option Breach
  misfits = misfit_at ds (active the_book the_plan) the_plan

  judged_out : open_refusal ds ≡ None → rows_refusal ds rs ≡ None → Judged m the_book the_plan (error_or (breach_of the_book the_plan) (cost m the_book.prices the_plan))
  judged_out accepted known = go (first_below misfits (length ds)) refl (position (met the_plan) (forbids rs)) refl
    where
      found : {o : Option ℕ} → position (met the_plan) (forbids rs) ≡ o → position_from (met the_plan) 0 (forbids rs) ≡ o
      found e = sym (position_from-zero (met the_plan) (forbids rs)) ∙ e

      go : (o : Option Breach) → first_below misfits (length ds) ≡ o → (q : Option ℕ) → position (met the_plan) (forbids rs) ≡ q
          → Judged m the_book the_plan (error_or (option_or o (option_map Forbidden q)) (cost m the_book.prices the_plan))
      go (Some x) e q f = found_misfit ds rs the_plan accepted known x (first_found misfits (length ds) x e)
      go None e (Some k) f = found_forbidden ds rs the_plan accepted known k (none_below misfits (length ds) e) (found f)
      go None e None f = (found_nothing ds rs the_plan accepted known (plan_idle (length ds) bytes) (none_below misfits (length ds) e) (found f), refl)

  answer_holds : Answered m ds rs bytes (answer_of m ds rs bytes)
  answer_holds = go (judge_refusal ds rs bytes) refl
    where
      verdict : Result C Breach
      verdict = error_or (breach_of the_book the_plan) (cost m the_book.prices the_plan)

      go : (o : Option Refusal) → judge_refusal ds rs bytes ≡ o → Answered m ds rs bytes (error_or o verdict)
      go (Some e) h = h
      go None h =
          let parts = option_or_none (open_refusal ds) (option_or (rows_refusal ds rs) (when (ltb (length bytes) (length ds)) ShortPlan)) h in
          (h, judged_out parts.0 (option_or_none (rows_refusal ds rs) (when (ltb (length bytes) (length ds)) ShortPlan) parts.1).0)

  pub worked_out : (v : Result (Result C Breach) Refusal) → Answered m ds rs bytes v ↔ (v ≡ answer_of m ds rs bytes)
  worked_out v = (λ h. one_answer m ds rs bytes v (answer_of m ds rs bytes) h answer_holds, λ e. subst (Answered m ds rs bytes) (sym e) answer_holds)
