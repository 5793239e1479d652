-- A trail's entries as two arrays hold them, and one entry more.
use Rattle.std.proofs.lemmas.Grind.{common_steps}
use Rattle.std.proofs.Common.{◌≡◌, ℕ, zero, suc, ◌+◌, ◌<◌, ◌≤◌, true, false, List, [], ◌∷◌, ◌++◌, length, take, get_or, set, replicate, sym, refl, ap, ◌∙◌, ⊎_elim, arith}
use Rattle.std.proofs.lemmas.List.{get_or-set_same, get_or-set_other, get_or-replicate, get_or_past, length-replicate}
use Rattle.std.proofs.lemmas.Bool.{and_parts, and_from, cases_eq, cases_lt}
use Rattle.rules.specs.Plans.{size_at, absent}
use Rattle.rules.specs.declared.decision.Decision.{Decision}
use Rattle.account.specs.Accounts.{Entry as Choice, chosen}
use Rattle.account.proofs.Formed.{Distinct}
use Rattle.account.proofs.Trails.{chosen_here, chosen_other}
use Rattle.account.proofs.Digits.{trail_le}
use Rattle.tables.specs.Entries.{entry_of, blank, entries_of, newest_first, enters, proper}
use Rattle.tables.specs.declared.entry.Entry.{Entry}

-- what a test of an entry says
pub record Enters (e : Choice) (es : List Choice) : Type 0 where
  pub known : e.decision < 64
  pub some : 1 ≤ e.value
  pub few : e.value ≤ 16
  pub idle : chosen es e.decision ≡ 0

pub enters_says : (e : Choice) (es : List Choice) → enters e es ≡ true → Enters e es
enters_says e es h = grind (arith, common_steps)

pub says_enters : (e : Choice) (es : List Choice) → Enters e es → enters e es ≡ true
says_enters e es h = grind (arith, common_steps)

-- a proper trail's newest entry, and the older ones
pub proper_parts : (e : Choice) (es : List Choice) → proper (e ∷ es) ≡ true → Enters e es × (proper es ≡ true)
proper_parts e es h = let p = and_parts (enters e es) (proper es) h in (enters_says e es p.0, p.1)

pub proper_more : (e : Choice) (es : List Choice) → Enters e es → proper es ≡ true → proper (e ∷ es) ≡ true
proper_more e es h p = and_from (enters e es) (proper es) (says_enters e es h) p

-- 64 decisions of 16 values
slots : List Decision
slots = replicate 64 (record { size = 16; on = false })

proper_distinct : (es : List Choice) → proper es ≡ true → Distinct slots es
unfolding slots
proper_distinct [] h = tt
proper_distinct (e ∷ es) h =
    let p = proper_parts e es h in
    let size : size_at slots e.decision ≡ 16 = ap (λ (d : Decision). d.size) (get_or-replicate 64 e.decision (record { size = 16; on = false }) absent p.0.known) in
    (p.0.idle, p.0.some, omega (arith, size, p.0.few), proper_distinct es p.1)

-- no more than 64 entries have decisions of their own
pub proper_short : (es : List Choice) → proper es ≡ true → length es ≤ 64
unfolding slots
proper_short es h = omega (arith, trail_le slots es (proper_distinct es h), length-replicate {A = Decision} 64 (record { size = 16; on = false }))

pub entries_length : (es : List Entry) (n : ℕ) → length (entries_of es n) ≡ n
entries_length es zero = refl
entries_length es (suc n) = ap suc (entries_length es n)

-- there is room for an entry that enters
pub room : (es : List Entry) (e : Choice) → proper (newest_first es) ≡ true → Enters e (newest_first es) → length es < 64
room es e p h = omega (arith, entries_length es (length es), proper_short (e ∷ newest_first es) (proper_more e (newest_first es) h p))

-- arrays that agree below n hold the same first entries
pub entries_same : (es fs : List Entry) (n : ℕ) → ((k : ℕ) → k < n → get_or es k blank ≡ get_or fs k blank) → entries_of es n ≡ entries_of fs n
entries_same es fs zero h = refl
entries_same es fs (suc n) h =
    ap (λ (e : Entry). entry_of e ∷ entries_of es n) (h n (omega arith)) ∙ ap (λ (cs : List Choice). entry_of (get_or fs n blank) ∷ cs) (entries_same es fs n (λ k l. h k (omega arith)))

-- the first n entries, cut off
pub entries_taken : (es : List Entry) (n : ℕ) → n ≤ length es → newest_first (take n es) ≡ entries_of es n
entries_taken es n l = grind (arith, common_steps, entries_same)

-- one entry more
pub entries_pushed : (es : List Entry) (e : Entry) → newest_first (es ++ e ∷ []) ≡ entry_of e ∷ newest_first es
entries_pushed es e = grind (arith, common_steps, entries_same)

-- an entry written behind the first n
pub entries_set : (es : List Entry) (n : ℕ) (e : Entry) → n < length es → entries_of (set es n e) (n + 1) ≡ entry_of e ∷ entries_of es n
entries_set es n e l = grind (arith, common_steps, entries_same)

-- one of the first n entries of a proper trail
pub entry_proper : (es : List Entry) (n k : ℕ) → proper (entries_of es n) ≡ true → k < n → Enters (entry_of (get_or es k blank)) (entries_of es k) × (proper (entries_of es k) ≡ true)
entry_proper es zero k p l = absurd (omega arith)
entry_proper es (suc n) k p l =
    let q = proper_parts (entry_of (get_or es n blank)) (entries_of es n) p in
    ⊎_elim (λ (h : k ≡ n). rw h q) (λ (h : k ≡ n → ⊥). entry_proper es n k q.1 (omega arith)) (cases_eq k n)

-- one entry more, and its value
module _ (es : List Entry) (vs : List ℕ) (e : Entry) (wide : length vs ≡ 64) (p : proper (newest_first es) ≡ true) (h : Enters (entry_of e) (newest_first es)) where
  pub entered_proper : proper (newest_first (es ++ e ∷ [])) ≡ true
  entered_proper = ap proper (entries_pushed es e) ∙ proper_more (entry_of e) (newest_first es) h p

  pub entered_values : ((d : ℕ) → get_or vs d 0 ≡ chosen (newest_first es) d) → (d : ℕ) → get_or (set vs e.decision e.value) d 0 ≡ chosen (newest_first (es ++ e ∷ [])) d
  entered_values was d =
      ⊎_elim (λ (q : d ≡ e.decision). ap (λ (x : ℕ). get_or (set vs e.decision e.value) x 0) q ∙ get_or-set_same vs e.decision e.value 0 (omega (arith, wide, h.known)) ∙ sym (chosen_here (entry_of e) (newest_first es) d q))
      (λ (q : d ≡ e.decision → ⊥). get_or-set_other vs e.decision d e.value 0 q ∙ was d ∙ sym (chosen_other (entry_of e) (newest_first es) d q))
      (cases_eq d e.decision)
      ∙ ap (λ (cs : List Choice). chosen cs d) (sym (entries_pushed es e))

-- 64 zeros are the values of no trail
pub zeros : (d : ℕ) → get_or (replicate {A = ℕ} 64 0) d 0 ≡ 0
zeros d =
    ⊎_elim (λ (l : d < 64). get_or-replicate {A = ℕ} 64 d 0 0 l) (λ (l : 64 ≤ d). get_or_past {X = ℕ} (replicate 64 0) d 0 (omega (arith, length-replicate {A = ℕ} 64 0))) (cases_lt d 64)
