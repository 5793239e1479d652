-- What a retreat leaves of a trail whose entries are proper: what left is off the plan, and the rest stays as it was.
use Rattle.std.proofs.lemmas.Grind.{common_steps}
use Rattle.std.proofs.Common.{◌≡◌, ℕ, zero, suc, ◌+◌, ◌<◌, true, false, cond, List, ◌∷◌, length, get_or, Some, None, sym, refl, ap, ◌∙◌, ⊎_elim, add-zero, add-suc, arith}
use Rattle.std.specs.List.{AllByRecursion}
use Rattle.std.proofs.lemmas.Bool.{cases_Bool, cond-false}
use Rattle.rules.specs.Plans.{Set}
use Rattle.account.specs.Accounts.{Entry as Choice, chosen}
use Rattle.account.specs.Steps.{Retreat as Parting, follow, retreat}
use Rattle.tables.specs.Entries.{entry_of, blank, entries_of, newest_first, proper, in_list}
use Rattle.tables.specs.Retreats.{followed, swept, Latest}
use Rattle.tables.specs.declared.entry.Entry.{Entry}
use Rattle.tables.proofs.Entering.{Enters, proper_parts}

-- what a retreat r has left of a trail es
pub record Parted (es : List Choice) (r : Parting) : Type 0 where
  pub known : AllByRecursion (λ (x : ℕ). x < 64) r.left
  -- what left was on the trail
  pub were : (x : ℕ) → in_list x r.left ≡ true → 0 < chosen es x
  pub planned : (x : ℕ) → chosen r.stays x ≡ cond (in_list x r.left) 0 (chosen es x)
  pub properly : proper r.stays ≡ true

module _ (e : Choice) (es : List Choice) (h : Enters e es) where
  module _ (r : Parting) (l : Parted es r) where
    -- the new entry's decision is not among those that left
    apart : in_list e.decision r.left ≡ false
    apart = ⊎_elim (λ (t : in_list e.decision r.left ≡ true). absurd (omega (arith, l.were e.decision t, h.idle))) (λ (t : in_list e.decision r.left ≡ false). t) (cases_Bool (in_list e.decision r.left))

    idle : chosen r.stays e.decision ≡ 0
    idle = l.planned e.decision ∙ cond-false (in_list e.decision r.left) 0 (chosen es e.decision) apart ∙ h.idle

    parted_followed : Parted (e ∷ es) (followed e r)
    parted_followed = grind (arith, common_steps)

-- a sweep over a proper trail
pub swept_parted : (es : List Entry) (place n : ℕ) → proper (entries_of es (suc (place + n))) ≡ true → Parted (entries_of es (suc (place + n))) (swept es place n)
unfolding swept
swept_parted es place zero p = grind (arith, common_steps)
swept_parted es place (suc n) p =
    let e = entry_of (get_or es (suc (place + n)) blank) in
    let q = proper_parts e (entries_of es (suc (place + n))) (rw add-suc at p) in
    rw add-suc (parted_followed e (entries_of es (suc (place + n))) q.0 (swept es place n) (swept_parted es place n q.1))

-- the culprit of a sweep stays the same
pub swept_culprit : (es : List Entry) (place n : ℕ) → (swept es place n).culprit ≡ entry_of (get_or es place blank)
unfolding swept
swept_culprit es place zero = refl
swept_culprit es place (suc n) = grind (arith, common_steps, swept_culprit es place n)

-- a retreat from a blame, whose latest entry stands at a place, is the sweep from there
swept_is : (s : Set) (es : List Entry) (place n : ℕ) → s (get_or es place blank).decision ≡ true → ((k : ℕ) → place < k → k < suc (place + n) → s (get_or es k blank).decision ≡ false) → retreat s (entries_of es (suc (place + n))) ≡ Some (swept es place n)
unfolding swept retreat
swept_is s es place zero h later = rw (add-zero, h) refl
swept_is s es place (suc n) h later =
    let e = entry_of (get_or es (suc (place + n)) blank) in
    rw (add-suc, later (suc (place + n)) (omega arith) (omega (arith, add-suc place n)))
    (ap (follow e) (swept_is s es place n h (λ k a b. later k a (omega (arith, add-suc place n)))))

pub retreat_some : (s : Set) (es : List Entry) (place m : ℕ) → Latest s es (Some place) → suc (place + m) ≡ length es → retreat s (newest_first es) ≡ Some (swept es place m)
retreat_some s es place m l e =
    ap (λ (k : ℕ). retreat s (entries_of es k)) (sym e) ∙ swept_is s es place m l.1 (λ k a b. l.2 k a (omega arith))

none_blamed : (s : Set) (es : List Entry) (n : ℕ) → ((k : ℕ) → k < n → s (get_or es k blank).decision ≡ false) → retreat s (entries_of es n) ≡ None
unfolding retreat
none_blamed s es zero l = refl
none_blamed s es (suc n) l =
    rw (l n (omega arith)) (ap (follow (entry_of (get_or es n blank))) (none_blamed s es n (λ k h. l k (omega arith))))

pub retreat_none : (s : Set) (es : List Entry) → Latest s es None → retreat s (newest_first es) ≡ None
retreat_none s es l = none_blamed s es (length es) l
