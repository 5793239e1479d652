-- The test of lawfulness that is worked out says what lawful means.
use Rattle.std.proofs.Common.{◌≡◌, ℕ, zero, suc, ◌<◌, ◌≤◌, Bool, true, false, not, ltb, leb, List, [], ◌∷◌, length, sym, refl, ◌∙◌, ⊎_elim, arith}
use mathlib.Core.Bool.{beq}
use Rattle.std.proofs.lemmas.Bool.{and_parts, and_from, cases_lt, cases_eq, lt-ltb, ltb-true, leb-true, le-leb, not-true, not_from_false}
use Rattle.std.specs.List.{AllByRecursion}
use Rattle.rules.specs.Conditions.{Plan, met}
use Rattle.rules.specs.Judging.{Fits, FitsBelow}
use Rattle.rules.specs.Plans.{Book, active, Lawful, all_below, meets_none, fits, is_lawful, size_at}
use Rattle.rules.specs.declared.row.Row.{Row}
use Rattle.rules.proofs.Activity.{Targets, active_sound, active_complete, active_known}

below_true : (t : ℕ → Bool) (n d : ℕ) → all_below t n ≡ true → d < n → t d ≡ true
below_true t zero d h l = absurd (omega arith)
below_true t (suc n) d h l =
    let (here, later) = and_parts (t n) (all_below t n) h in
    ⊎_elim (λ (e : d ≡ n). rw e here) (λ (ne : d ≡ n → ⊥). below_true t n d later (omega arith)) (cases_eq d n)

same_true : (x y : Bool) → beq x y ≡ true → x ≡ y
same_true true true h = refl
same_true true false h = sym h
same_true false true h = h
same_true false false h = refl

none_met : (rs : List Row) (p : Plan) → meets_none rs p ≡ true → AllByRecursion (λ r. met p r ≡ false) rs
none_met [] p h = tt
none_met (r ∷ rs) p h =
    let (here, later) = and_parts (not (met p r)) (meets_none rs p) h in
    (not-true (met p r) here, none_met rs p later)

pub below_all : (t : ℕ → Bool) (n : ℕ) → ((d : ℕ) → d < n → t d ≡ true) → all_below t n ≡ true
below_all t zero h = refl
below_all t (suc n) h = and_from (t n) (all_below t n) (h n (omega arith)) (below_all t n (λ d l. h d (omega arith)))

pub both_true : (x y : Bool) → (x ≡ true → y ≡ true) → (y ≡ true → x ≡ true) → beq x y ≡ true
both_true true true f g = refl
both_true true false f g = f refl
both_true false true f g = g refl
both_true false false f g = refl

meets_none_lem : (rs : List Row) (p : Plan) → AllByRecursion (λ r. met p r ≡ false) rs → meets_none rs p ≡ true
meets_none_lem [] p h = refl
meets_none_lem (r ∷ rs) p h = and_from (not (met p r)) (meets_none rs p) (not_from_false (met p r) h.0) (meets_none_lem rs p h.1)

module _ (b : Book) (p : Plan) (known : Targets (length b.decisions) b.activates) where
  -- a decision that passes the test is treated lawfully
  pub fits_true : (d : ℕ) → fits b p d ≡ true → Fits b p d
  fits_true d h =
      let (same, range) = and_parts (beq (ltb 0 (p d)) (active b p d)) (leb (p d) (size_at b.decisions d)) h in
      let e = same_true (ltb 0 (p d)) (active b p d) same in
      record {
        only_active = λ l. active_sound b p d (sym e ∙ lt-ltb 0 (p d) l);
        all_active = λ k. ltb-true 0 (p d) (e ∙ active_complete b p known d k);
        in_range = leb-true (p d) (size_at b.decisions d) range;
      }

  -- a plan that treats each decision lawfully, leaves the rest idle and meets no forbid rule is lawful
  pub lawful_from_fits : FitsBelow b p (length b.decisions) → ((d : ℕ) → length b.decisions ≤ d → p d ≡ 0) → AllByRecursion (λ r. met p r ≡ false) b.forbids → Lawful b p
  lawful_from_fits all idle clear =
      record {
        only_active = λ d h. ⊎_elim (λ (l : d < length b.decisions). (all d l).only_active h) (λ (g : length b.decisions ≤ d). absurd (omega (arith, idle d g))) (cases_lt d (length b.decisions));
        all_active = λ d h. (all d (active_known b p d known (active_complete b p known d h))).all_active h;
        in_range = λ d. ⊎_elim (λ (l : d < length b.decisions). (all d l).in_range) (λ (g : length b.decisions ≤ d). omega (arith, idle d g)) (cases_lt d (length b.decisions));
        unforbidden = clear;
      }

  -- a plan that passes the test is lawful
  pub lawful_from_test : ((d : ℕ) → length b.decisions ≤ d → p d ≡ 0) → is_lawful b p ≡ true → Lawful b p
  lawful_from_test idle h =
      let (all, clear) = and_parts (all_below (fits b p) (length b.decisions)) (meets_none b.forbids p) h in
      lawful_from_fits (λ d l. fits_true d (below_true (fits b p) (length b.decisions) d all l)) idle (none_met b.forbids p clear)

  -- a lawful plan passes the test
  pub test_from_lawful : Lawful b p → is_lawful b p ≡ true
  test_from_lawful h =
      and_from (all_below (fits b p) (length b.decisions)) (meets_none b.forbids p)
      (below_all (fits b p) (length b.decisions) (λ d l.
      and_from (beq (ltb 0 (p d)) (active b p d)) (leb (p d) (size_at b.decisions d))
      (both_true (ltb 0 (p d)) (active b p d) (λ e. active_complete b p known d (h.only_active d (ltb-true 0 (p d) e))) (λ e. lt-ltb 0 (p d) (h.all_active d (active_sound b p d e))))
      (le-leb (p d) (size_at b.decisions d) (h.in_range d))))
      (meets_none_lem b.forbids p h.unforbidden)
