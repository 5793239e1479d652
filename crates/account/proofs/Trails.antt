-- What a trail's plan has, and what a retreat from a blame leaves of a trail.
use Rattle.std.proofs.lemmas.Grind.{common_steps}
use Rattle.std.proofs.Common.{◌≡◌, ℕ, ◌<◌, ◌≤◌, true, false, eqb, ◌⊎◌, List, [], ◌∷◌, length, Some, None, Option, sym, ◌∙◌, inl, inr, ⊎_elim, arith}
use Rattle.std.specs.List.{ContainsAt as Has}
use Rattle.std.proofs.lemmas.Bool.{cond_both, cond-true, cond-false, cases_eq, both_ways, eq-eqb, ne_eqb}
use Rattle.rules.specs.Conditions.{Plan, names, condition, met}
use Rattle.rules.specs.Plans.{Book, Set, size_at, on_at}
use Rattle.rules.specs.declared.decision.Decision.{Decision}
use Rattle.rules.specs.declared.row.Row.{Row}
use Rattle.account.specs.Accounts.{Entry, chosen, has_any}
use Rattle.account.specs.Steps.{Retreat, follow, retreat}
use Rattle.account.proofs.Formed.{Distinct}
use Rattle.account.proofs.Meeting.{met_same}

-- a set of decisions on the trail
abbrev pub Within : List Entry → Set → Type 0
Within es s = (x : ℕ) → s x ≡ true → 0 < chosen es x

pub chosen_here : (e : Entry) (es : List Entry) (x : ℕ) → x ≡ e.decision → chosen (e ∷ es) x ≡ e.value
chosen_here e es x h = cond-true (eqb x e.decision) e.value (chosen es x) (eq-eqb x e.decision h)

pub chosen_other : (e : Entry) (es : List Entry) (x : ℕ) → (x ≡ e.decision → ⊥) → chosen (e ∷ es) x ≡ chosen es x
chosen_other e es x h = cond-false (eqb x e.decision) e.value (chosen es x) (ne_eqb x e.decision h)

-- a decision with a value is one of those that there are
pub size_known : (ds : List Decision) (d : ℕ) → 1 ≤ size_at ds d → d < length ds
size_known ds d h = grind (arith, common_steps)

-- the values of a trail are in range
pub chosen_range : (ds : List Decision) (es : List Entry) → Distinct ds es → (x : ℕ) → chosen es x ≤ size_at ds x
chosen_range ds [] dis x = omega arith
chosen_range ds (e ∷ es) dis x =
    ⊎_elim (λ (h : x ≡ e.decision). rw (chosen_here e es x h, h) dis.2) (λ (h : x ≡ e.decision → ⊥). rw (chosen_other e es x h) (chosen_range ds es dis.3 x)) (cases_eq x e.decision)

-- a decision on the trail is one of those that there are
pub chosen_known : (ds : List Decision) (es : List Entry) → Distinct ds es → (x : ℕ) → 0 < chosen es x → x < length ds
chosen_known ds es dis x h = size_known ds x (omega (arith, chosen_range ds es dis x))

-- why an entry may stand behind a plan: it is marked on, or the plan meets an activate rule for it, whose decisions its support has
abbrev pub Ground : Book → Plan → Entry → Type 0
Ground b p e =
    (on_at b.decisions e.decision ≡ true) ⊎ ((r : Row) × Has b.activates r × (r.target ≡ e.decision) × (met p r ≡ true) × ((x : ℕ) → names (condition r) x ≡ true → e.support x ≡ true))

-- every entry of a trail is grounded in the older ones
abbrev pub Grounded : Book → List Entry → Type 0
Grounded b [] = Unit {0}
Grounded b (e ∷ es) = Ground b (chosen es) e × Grounded b es

-- what holds of a retreat from a blame
pub record Left (b : Book) (blame : Set) (es : List Entry) (r : Retreat) : Type 0 where
  pub is_blamed : blame r.culprit.decision ≡ true
  pub was : chosen es r.culprit.decision ≡ r.culprit.value
  pub gone : chosen r.stays r.culprit.decision ≡ 0
  -- the rest of the blame stays
  pub others : (x : ℕ) → blame x ≡ true → (x ≡ r.culprit.decision → ⊥) → chosen r.stays x ≡ chosen es x
  -- every decision keeps its value, or is idle and among those that left
  pub each : (x : ℕ) → (chosen r.stays x ≡ chosen es x) ⊎ ((chosen r.stays x ≡ 0) × ((s : Set) → s x ≡ true → has_any s r.left ≡ true))
  pub distinct : Distinct b.decisions r.stays
  pub grounded : Grounded b es → Grounded b r.stays

-- what a retreat finds: no entry that is blamed, or what it leaves
abbrev pub Retreated : Book → Set → List Entry → Option Retreat → Type 0
Retreated b blame es None = (x : ℕ) → 0 < chosen es x → blame x ≡ false
Retreated b blame es (Some r) = Left b blame es r

module _ (b : Book) (blame : Set) (e : Entry) (es : List Entry) (dis : Distinct b.decisions (e ∷ es)) where
  blamed_first : blame e.decision ≡ true → Left b blame (e ∷ es) (record { culprit = e; left = e.decision ∷ []; stays = es })
  blamed_first h = grind (arith, common_steps)

  module _ (unblamed : blame e.decision ≡ false) (r : Retreat) (l : Left b blame es r) where
    apart : (x : ℕ) → blame x ≡ true → x ≡ e.decision → ⊥
    apart x t q = both_ways (blame x) (rw q unblamed) t

    idle : chosen r.stays e.decision ≡ 0
    idle = ⊎_elim (λ h. h ∙ dis.0) (λ h. h.0) (l.each e.decision)

    leaves : Left b blame (e ∷ es) (record { culprit = r.culprit; left = e.decision ∷ r.left; stays = r.stays })
    leaves = grind (arith, common_steps)

    module _ (apart-from-left : has_any e.support r.left ≡ false) where
      still : Ground b (chosen es) e → Ground b (chosen r.stays) e
      still (inl on) = inl on
      still (inr g) = inr (g.0, g.1, g.2, met_same g.0 (chosen es) (chosen r.stays) (λ x n. ⊎_elim (λ h. h) (λ h. absurd (both_ways (has_any e.support r.left) apart-from-left (h.1 e.support (g.4 x n)))) (l.each x)) g.3, g.4)

      remains : Left b blame (e ∷ es) (record { culprit = r.culprit; left = r.left; stays = e ∷ r.stays })
      remains =
          record {
            is_blamed = l.is_blamed;
            was = chosen_other e es r.culprit.decision (apart r.culprit.decision l.is_blamed) ∙ l.was;
            gone = chosen_other e r.stays r.culprit.decision (apart r.culprit.decision l.is_blamed) ∙ l.gone;
            others = λ x t ne. chosen_other e r.stays x (apart x t) ∙ l.others x t ne ∙ sym (chosen_other e es x (apart x t));
            each =
                λ x. ⊎_elim (λ (q : x ≡ e.decision). inl (chosen_here e r.stays x q ∙ sym (chosen_here e es x q)))
                (λ (ne : x ≡ e.decision → ⊥). ⊎_elim (λ h. inl (chosen_other e r.stays x ne ∙ h ∙ sym (chosen_other e es x ne))) (λ h. inr (chosen_other e r.stays x ne ∙ h.0, h.1)) (l.each x))
                (cases_eq x e.decision);
            distinct = (idle, dis.1, dis.2, l.distinct);
            grounded = λ gr. (still gr.0, l.grounded gr.1);
          }

  followed : blame e.decision ≡ false → (o : Option Retreat) → Retreated b blame es o → Retreated b blame (e ∷ es) (follow e o)
  followed unblamed None h =
      λ x t. ⊎_elim (λ (q : x ≡ e.decision). rw q unblamed) (λ (ne : x ≡ e.decision → ⊥). h x (rw (chosen_other e es x ne) at t)) (cases_eq x e.decision)
  followed unblamed (Some r) l =
      cond_both (has_any e.support r.left) (record { culprit = r.culprit; left = e.decision ∷ r.left; stays = r.stays }) (record { culprit = r.culprit; left = r.left; stays = e ∷ r.stays }) (Left b blame (e ∷ es)) (λ t. leaves unblamed r l) (λ t. remains unblamed r l t)

-- a retreat leaves what it should
pub retreated : (b : Book) (blame : Set) (es : List Entry) → Distinct b.decisions es → Retreated b blame es (retreat blame es)
unfolding retreat
retreated b blame [] dis = λ x t. absurd (omega arith)
retreated b blame (e ∷ es) dis = grind (arith, common_steps, retreated b blame es dis.3, blamed_first, followed)
