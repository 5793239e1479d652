-- What a sound account answers: the parts of the planning law that speak of one account.
use Rattle.std.proofs.lemmas.Grind.{common_steps}
use Rattle.std.proofs.Common.{◌≡◌, ℕ, zero, suc, ◌+◌, ◌<◌, ◌≤◌, true, ltb, ◌↔◌, List, ◌++◌, map, length, get_or, drop, Some, None, Option, sym, refl, ap, ◌∙◌, subst, arith}
use mathlib.Core.Path.{fun_ext}
use Rattle.std.specs.List.{range_with_len}
use Rattle.std.proofs.lemmas.List.FromFn.{length-map-range_with_len, get_or-map-range_with_len}
use Rattle.std.proofs.lemmas.List.{get_or_append_left}
use Rattle.std.proofs.lemmas.Bool.{cond_both, ltb-true, ltb-false}
use Rattle.measure.specs.Meaning.{Meaning}
use Rattle.rules.specs.Conditions.{Plan, plan_of}
use Rattle.rules.specs.Plans.{Lawful, cost}
use Rattle.rules.specs.declared.decision.Decision.{Decision}
use Rattle.account.specs.Accounts.{Account, Exclusion, Best, chosen}
use Rattle.account.specs.Calls.{run, best, exclusion, ran, reported, excluded, made, written, answer}
use Rattle.account.specs.Law.{Agrees, RulesOut}
use Rattle.account.specs.Steps.{advance_in, advance, one_if_open}
use Rattle.account.specs.declared.state.State.{State}
use Rattle.account.specs.declared.state.State.TheVariants.{Open, Settled}
use Rattle.account.proofs.Changed.{lawful_idle}
use Rattle.account.proofs.Sound.{Beaten, Sound}
use Rattle.std.proofs.lemmas.Option.{none-some, same_Some}

-- a plan that is idle behind the last decision is the plan of what is written of it
pub plan_written : (n : ℕ) (p : Plan) (buffer : List ℕ) → ((d : ℕ) → n ≤ d → p d ≡ 0) → plan_of n (written n p buffer) ≡ p
plan_written n p buffer idle = fun_ext one
  where
    one : (d : ℕ) → plan_of n (written n p buffer) d ≡ p d
    one d =
        cond_both (ltb d n) (get_or (map p (range_with_len 0 n) ++ drop n buffer) d 0) 0 (λ (v : ℕ). v ≡ p d)
        (λ e. let l = ltb-true d n e in get_or_append_left (map p (range_with_len 0 n)) (drop n buffer) 0 d (rw (length-map-range_with_len p 0 n) l) ∙ get_or-map-range_with_len p 0 n d d 0 l (omega arith))
        (λ e. sym (idle d (ltb-false d n e)))

-- what best tells of what is held
abbrev pub Told : {C : Type 0} → ℕ → List ℕ → Option (Best C) → Option C → List ℕ → Type 0
Told n buffer None c bytes = c ≡ None
Told n buffer (Some b) c bytes = (c ≡ Some b.cost) × (bytes ≡ written n b.plan buffer)

module _ {C : Type 0} (m : Meaning C) (a : Account C) where
  pub told : (buffer bytes : List ℕ) (s : State) (c : Option C) → answer m a (best buffer) ≡ reported s c bytes → (a.state ≡ s) × Told (length a.book.decisions) buffer a.best c bytes
  told buffer bytes s c h = grind (arith, common_steps)

  -- what exclusion answers is the account's
  pub told_excluded : (d v : ℕ) (e : Exclusion) → answer m a (exclusion d v) ≡ excluded (Some e) → a.exclusions d v ≡ Some e
  told_excluded d v e h = grind (arith, common_steps)

  pub told_ran : (budget steps : ℕ) (s : State) → answer m a (run budget) ≡ ran steps s → (made m budget a ≡ steps) × ((advance m budget a).state ≡ s)
  told_ran budget steps s h = grind (arith, common_steps)

  -- a run that makes fewer steps than it may ends settled
  short_settled : (n : ℕ) → made m n a < n → (advance m n a).state ≡ Settled
  short_settled zero h = absurd (omega arith)
  short_settled (suc n) h = go (advance m n a).state refl h (short_settled n)
    where
      go : (t : State) → (advance m n a).state ≡ t → made m n a + one_if_open t < suc n → (made m n a < n → (advance m n a).state ≡ Settled) → (advance_in m (advance m n a) t).state ≡ Settled
      go Open e l before = let q = before (omega arith) in let z : ◌≡◌ {A = ℕ} 0 1 = cc in absurd (omega arith)
      go Settled e l before = e

  pub short_run_is_settled : (budget steps : ℕ) (s : State) → answer m a (run budget) ≡ ran steps s → steps < budget → s ≡ Settled
  short_run_is_settled budget steps s h l = let k = told_ran budget steps s h in sym k.1 ∙ short_settled budget (omega (arith, k.0))

  module _ (s : Sound m a) where
    pub best_is_lawful : (ds : List Decision) → a.book.decisions ≡ ds → (buffer bytes : List ℕ) (t : State) (c : C) → answer m a (best buffer) ≡ reported t (Some c) bytes → Lawful a.book (plan_of (length ds) bytes) × (c ≡ cost m a.book.prices (plan_of (length ds) bytes))
    best_is_lawful ds same buffer bytes t c h = go a.best refl (told buffer bytes t (Some c) h).1
      where
        go : (o : Option (Best C)) → a.best ≡ o → Told (length a.book.decisions) buffer o (Some c) bytes → Lawful a.book (plan_of (length ds) bytes) × (c ≡ cost m a.book.prices (plan_of (length ds) bytes))
        go None e k = absurd (none-some c (sym k))
        go (Some b) e k =
            let good = s.best_good b e in
            let plan : plan_of (length ds) bytes ≡ b.plan = ap (λ (n : ℕ). plan_of n bytes) (ap length (sym same)) ∙ ap (plan_of (length a.book.decisions)) k.1 ∙ plan_written (length a.book.decisions) b.plan buffer (lawful_idle a.book b.plan good.lawful) in
            (subst (Lawful a.book) (sym plan) good.lawful, same_Some c b.cost k.0 ∙ good.costs ∙ ap (cost m a.book.prices) (sym plan))

    pub exclusions_are_true : (d v : ℕ) (e : Exclusion) → answer m a (exclusion d v) ≡ excluded (Some e) → (p : Plan) → Lawful a.book p → p d ≡ v → Agrees p (chosen a.trail) e.reason → RulesOut m a e.rests p
    exclusions_are_true d v e h = s.barred d v e (told_excluded d v e h)

    pub resting_needs_a_best : (d v : ℕ) (e : Exclusion) → answer m a (exclusion d v) ≡ excluded (Some e) → e.rests ≡ true → (b : Best C) × (a.best ≡ Some b)
    resting_needs_a_best d v e h = s.resting d v e (told_excluded d v e h)

    pub least : (buffer bytes : List ℕ) (c : C) → answer m a (best buffer) ≡ reported Settled (Some c) bytes → (p : Plan) → Lawful a.book p → m.at_most c (cost m a.book.prices p) ≡ true
    least buffer bytes c h p law = let k = told buffer bytes Settled (Some c) h in go a.best k.1 (s.settled k.0 p law)
      where
        go : (o : Option (Best C)) → Told (length a.book.decisions) buffer o (Some c) bytes → Beaten m a.book o p → m.at_most c (cost m a.book.prices p) ≡ true
        go None t beaten = absurd beaten
        go (Some b) t beaten = rw (same_Some c b.cost t.0) beaten

    pub none : (buffer bytes : List ℕ) (c : Option C) → answer m a (best buffer) ≡ reported Settled c bytes → (c ≡ None) ↔ ((p : Plan) → Lawful a.book p → ⊥)
    none buffer bytes c h = let k = told buffer bytes Settled c h in (λ e p law. idle p a.best k.1 e (s.settled k.0 p law), λ never. nothing a.best refl k.1 never)
      where
        idle : (p : Plan) (o : Option (Best C)) → Told (length a.book.decisions) buffer o c bytes → c ≡ None → Beaten m a.book o p → ⊥
        idle p None t e beaten = beaten
        idle p (Some b) t e beaten = none-some b.cost (sym e ∙ t.0)

        nothing : (o : Option (Best C)) → a.best ≡ o → Told (length a.book.decisions) buffer o c bytes → ((p : Plan) → Lawful a.book p → ⊥) → c ≡ None
        nothing None e t never = t
        nothing (Some b) e t never = absurd (never b.plan (s.best_good b e).lawful)
