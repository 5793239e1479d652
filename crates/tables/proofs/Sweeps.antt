-- The arrays of a trail while a retreat sweeps over them.
use Rattle.std.proofs.lemmas.Grind.{common_steps}
use Rattle.std.proofs.Common.{◌≡◌, ℕ, suc, ◌+◌, ◌-◌, ◌<◌, ◌≤◌, Bool, true, false, cond, ◌&&◌, ◌||◌, eqb, ltb, List, [], ◌∷◌, length, take, get_or, set, Some, sym, refl, ap, ◌∙◌, subst, ⊎_elim, arith}
use mathlib.Core.Path.{fun_ext}
use Rattle.std.specs.List.{AllByRecursion}
use Rattle.std.proofs.lemmas.List.{get_or-set_same, get_or-set_other, length-set}
use Rattle.std.proofs.lemmas.Bool.{cases_eq, cond-true, cond-false, eq-eqb, ne_eqb, or_left}
use Rattle.rules.specs.Conditions.{Plan, from_bytes}
use Rattle.rules.specs.Plans.{Set}
use Rattle.account.specs.Accounts.{Entry as Choice, chosen, has_any}
use Rattle.account.specs.Steps.{Retreat as Parting, retreat}
use Rattle.sets.specs.Members.{members}
use Rattle.sets.specs.Searches.{some_below}
use Rattle.tables.specs.Entries.{entry_of, blank, entries_of, newest_first, in_list, proper}
use Rattle.tables.specs.Retreats.{Latest, followed, swept, Sweeping}
use Rattle.tables.specs.declared.entry.Entry.{Entry}
use Rattle.tables.proofs.Entering.{entries_set, entries_taken, entry_proper}
use Rattle.tables.proofs.Listed.{meets_any, left_more}
use Rattle.tables.proofs.Parting.{Parted, swept_parted, swept_culprit, retreat_some}

-- one value more set to 0
values_less : (p : Plan) (vs : List ℕ) (ds : List ℕ) (d : ℕ) → d < length vs → from_bytes vs ≡ (λ (x : ℕ). cond (in_list x ds) 0 (p x)) → from_bytes (set vs d 0) ≡ (λ (x : ℕ). cond (in_list x (d ∷ ds)) 0 (p x))
values_less p vs ds d l e =
    fun_ext (λ (x : ℕ).
    ⊎_elim (λ (q : x ≡ d). ap (λ (y : ℕ). get_or (set vs d 0) y 0) q ∙ get_or-set_same vs d 0 0 l ∙ sym (cond-true (eqb x d || in_list x ds) 0 (p x) (or_left (eqb x d) (in_list x ds) (eq-eqb x d q))))
    (λ (q : x ≡ d → ⊥). get_or-set_other vs d x 0 0 q ∙ ap (λ (f : Plan). f x) e ∙ ap (λ (b : Bool). cond (b || in_list x ds) 0 (p x)) (sym (ne_eqb x d q)))
    (cases_eq x d))

module _ (es : List Entry) (vs : List ℕ) where
  -- nothing has left yet
  sweeping_none : (place : ℕ) (s : Set) → length vs ≡ 64 → s ≡ (λ (x : ℕ). false)
      → Sweeping es vs (record { culprit = entry_of (get_or es place blank); left = []; stays = entries_of es place }) es vs place s
  sweeping_none place s w e = record { full = refl; wide = w; stays = refl; left = e; values = refl }

  module _ (r : Parting) (ns : List Entry) (ws : List ℕ) (n : ℕ) (s : Set) (h : Sweeping es vs r ns ws n s) where
    -- a decision leaves
    sweeping_leaves : (d : ℕ) (t : Set) → d < 64 → t ≡ (λ (x : ℕ). s x || (eqb x d && ltb d 64))
        → Sweeping es vs (record { culprit = r.culprit; left = d ∷ r.left; stays = r.stays }) ns (set ws d 0) n t
    sweeping_leaves d t l e =
        record {
          full = h.full;
          wide = length-set ws d 0 ∙ h.wide;
          stays = h.stays;
          left = left_more s t r.left d h.left l e;
          values = values_less (from_bytes vs) ws r.left d (omega (arith, h.wide)) h.values;
        }

    -- an entry moves up
    sweeping_stays : (e : Entry) → n < length es → Sweeping es vs (record { culprit = r.culprit; left = r.left; stays = entry_of e ∷ r.stays }) (set ns n e) ws (n + 1) s
    sweeping_stays e l =
        record {
          full = length-set ns n e ∙ h.full;
          wide = h.wide;
          stays = entries_set ns n e (omega (arith, h.full)) ∙ ap (λ (cs : List Choice). entry_of e ∷ cs) h.stays;
          left = h.left;
          values = h.values;
        }

-- the sweep goes on by one entry
swept_next : (es : List Entry) (place i : ℕ) → place < i → swept es place (i + 1 - (place + 1)) ≡ followed (entry_of (get_or es i blank)) (swept es place (i - (place + 1)))
unfolding swept
swept_next es place i l =
    let a : i + 1 - (place + 1) ≡ suc (i - (place + 1)) = omega arith in
    let b : suc (place + (i - (place + 1))) ≡ i = omega arith in
    ap (swept es place) a ∙ ap (λ (k : ℕ). followed (entry_of (get_or es k blank)) (swept es place (i - (place + 1)))) b

-- the sweep from a place, before its first entry: the culprit has left
pub sweep_begins : (es : List Entry) (vs : List ℕ) (place : ℕ) (s t : Set) → length vs ≡ 64 → (get_or es place blank).decision < 64
    → s ≡ (λ (x : ℕ). false) → t ≡ (λ (x : ℕ). s x || (eqb x (get_or es place blank).decision && ltb (get_or es place blank).decision 64))
    → Sweeping es vs (swept es place 0) es (set vs (get_or es place blank).decision 0) place t
unfolding swept
sweep_begins es vs place s t w l e h =
    sweeping_leaves es vs (record { culprit = entry_of (get_or es place blank); left = []; stays = entries_of es place }) es vs place s (sweeping_none es vs place s w e) (get_or es place blank).decision t l h

-- the sweep comes to an entry
module _ (es : List Entry) (place i : ℕ) (p : proper (newest_first es) ≡ true) (before : place < i) (within : i < length es) (e : Entry) (is : get_or es i blank ≡ e) where
  pub met_below : e.decision < 64
  met_below = omega (arith, ap (λ (x : Entry). x.decision) is, (entry_proper es (length es) i p within).0.known)

  left_below : AllByRecursion (λ (d : ℕ). d < 64) (swept es place (i - (place + 1))).left
  left_below =
      let b : suc (place + (i - (place + 1))) ≡ i = omega arith in
      (swept_parted es place (i - (place + 1)) (ap (λ (k : ℕ). proper (entries_of es k)) b ∙ (entry_proper es (length es) i p within).1)).known

  module _ {vs : List ℕ} {ns : List Entry} {ws : List ℕ} {n : ℕ} {s : Set} (h : Sweeping es vs (swept es place (i - (place + 1))) ns ws n s) where
    any_left : some_below (λ (x : ℕ). members e.support x && s x) 64 ≡ has_any (members e.support) (swept es place (i - (place + 1))).left
    any_left = meets_any (members e.support) s (swept es place (i - (place + 1))).left h.left left_below

    next : (r : Parting) → followed (entry_of e) (swept es place (i - (place + 1))) ≡ r → swept es place (i + 1 - (place + 1)) ≡ r
    next r q = swept_next es place i before ∙ ap (λ (x : Entry). followed (entry_of x) (swept es place (i - (place + 1)))) is ∙ q

    -- its support has a decision that left, so it leaves
    pub sweep_drops : some_below (λ (x : ℕ). members e.support x && s x) 64 ≡ true → (t : Set) → t ≡ (λ (x : ℕ). s x || (eqb x e.decision && ltb e.decision 64))
        → Sweeping es vs (swept es place (i + 1 - (place + 1))) ns (set ws e.decision 0) n t
    sweep_drops m t q =
        let r = swept es place (i - (place + 1)) in
        let gone : Parting = record { culprit = r.culprit; left = e.decision ∷ r.left; stays = r.stays } in
        let stay : Parting = record { culprit = r.culprit; left = r.left; stays = entry_of e ∷ r.stays } in
        let P : Parting → Type 0 = λ x. Sweeping es vs x ns (set ws e.decision 0) n t in
        subst P (sym (next gone (cond-true (has_any (members e.support) r.left) gone stay (sym any_left ∙ m))))
        (sweeping_leaves es vs r ns ws n s h e.decision t met_below q)

    -- its support has none, so it moves up
    pub sweep_keeps : some_below (λ (x : ℕ). members e.support x && s x) 64 ≡ false → n < length es → Sweeping es vs (swept es place (i + 1 - (place + 1))) (set ns n e) ws (n + 1) s
    sweep_keeps m l =
        let r = swept es place (i - (place + 1)) in
        let gone : Parting = record { culprit = r.culprit; left = e.decision ∷ r.left; stays = r.stays } in
        let stay : Parting = record { culprit = r.culprit; left = r.left; stays = entry_of e ∷ r.stays } in
        let P : Parting → Type 0 = λ x. Sweeping es vs x (set ns n e) ws (n + 1) s in
        subst P (sym (next stay (cond-false (has_any (members e.support) r.left) gone stay (sym any_left ∙ m))))
        (sweeping_stays es vs r ns ws n s h e l)

-- the sweep from the latest blamed entry over all later ones is the retreat
module _ (blame : Set) (es : List Entry) (place : ℕ) (l : Latest blame es (Some place)) (p : proper (newest_first es) ≡ true)
    {vs : List ℕ} {ns : List Entry} {ws : List ℕ} {n : ℕ} {s : Set} (h : Sweeping es vs (swept es place (length es - (place + 1))) ns ws n s) (few : n ≤ length es) where
  whole : suc (place + (length es - (place + 1))) ≡ length es
  whole = omega (arith, l.0)

  parted : Parted (newest_first es) (swept es place (length es - (place + 1)))
  parted = grind (arith, common_steps, Parted, whole, swept_parted)

  stays_are : newest_first (take n ns) ≡ (swept es place (length es - (place + 1))).stays
  stays_are = entries_taken ns n (omega (arith, few, h.full)) ∙ h.stays

  pub sweep_retreats : retreat blame (newest_first es) ≡ Some (record { culprit = entry_of (get_or es place blank); left = (swept es place (length es - (place + 1))).left; stays = newest_first (take n ns) })
  sweep_retreats = grind (arith, common_steps, retreat_some, whole, swept_culprit, stays_are)

  pub sweep_known : AllByRecursion (λ (d : ℕ). d < 64) (swept es place (length es - (place + 1))).left
  sweep_known = parted.known

  pub sweep_proper : proper (newest_first (take n ns)) ≡ true
  sweep_proper = ap proper stays_are ∙ parted.properly

  pub sweep_planned : ((d : ℕ) → get_or vs d 0 ≡ chosen (newest_first es) d) → (d : ℕ) → get_or ws d 0 ≡ chosen (newest_first (take n ns)) d
  sweep_planned was d =
      let r = swept es place (length es - (place + 1)) in
      ap (λ (f : Plan). f d) h.values ∙ ap (λ (y : ℕ). cond (in_list d r.left) 0 y) (was d) ∙ sym (parted.planned d)
      ∙ ap (λ (cs : List Choice). chosen cs d) (sym stays_are)
