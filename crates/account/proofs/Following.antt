-- What follows from the planning law.
use Rattle.std.proofs.Common.{◌≡◌, ℕ, ◌+◌, ◌^◌, ◌<◌, ◌≤◌, Bool, true, false, cond, leb, List, [], ◌∷◌, ◌++◌, length, Some, None, sum_by, Option, sym, refl, ap, ◌∙◌, subst, arith}
use Rattle.std.proofs.lemmas.Bool.{and_from, le-leb, le-ltb}
use Rattle.std.proofs.lemmas.List.Sorted.{sum_by-IsPermutation}
use Rattle.std.proofs.lemmas.Option.{none-some, same_Some}
use Rattle.std.specs.List.{AllByRecursion}
use Rattle.measure.specs.Meaning.{Meaning}
use Rattle.rules.specs.Conditions.{Plan}
use Rattle.rules.specs.Judging.{has_size, open_refusal, sized}
use Rattle.rules.specs.Plans.{cost}
use Rattle.rules.specs.declared.decision.Decision.{Decision}
use Rattle.account.specs.Accounts.{Account, Best, Exclusion, fresh}
use Rattle.account.specs.Calls.{Call, run, made, ran, answer, after, history, steps_since, tally}
use Rattle.account.specs.Consequences.{Beside, Consequences, Excluded, Follows, Reordered, Reports}
use Rattle.account.specs.Law.{Kept, OneCost, Planning, PlanningLaw, RulesOut, same_rule}
use Rattle.account.specs.Changes.{held}
use Rattle.account.specs.Steps.{advance}
use Rattle.account.specs.declared.state.State.{State}
use Rattle.account.specs.declared.state.State.TheVariants.{Settled}
use Rattle.account.proofs.Reports.{Told, told}

-- decisions of 1 to 16 values have their sizes
sized_from : (ds : List Decision) → AllByRecursion (λ (d : Decision). (1 ≤ d.size) × (d.size ≤ 16)) ds → sized ds ≡ true
sized_from [] h = refl
sized_from (d ∷ ds) h = and_from (has_size d) (sized ds) (and_from (leb 1 d.size) (leb d.size 16) (le-leb 1 d.size h.0.0) (le-leb d.size 16 h.0.1)) (sized_from ds h.1)

opens : (ds : List Decision) → length ds ≤ 64 → AllByRecursion (λ (d : Decision). (1 ≤ d.size) × (d.size ≤ 16)) ds → open_refusal ds ≡ None
opens ds few sizes = rw (le-ltb 64 (length ds) few, sized_from ds sizes) refl

module _ {C : Type 0} (m : Meaning C) where
  -- the steps counted with one call more
  since_more : (n : ℕ) (a : Account C) (cs : List Call) (c : Call) → steps_since m n a (cs ++ c ∷ []) ≡ tally (steps_since m n a cs) c (answer m (history m a cs) c)
  since_more n a [] c = refl
  since_more n a (b ∷ cs) c = since_more (tally n b (answer m a b)) (after m a b) cs c

  -- what an accepted run answers
  run_answer : (a : Account C) (budget : ℕ) → budget ≤ 1000000 → answer m a (run budget) ≡ ran (made m budget a) (advance m budget a).state
  run_answer a budget l = rw (le-ltb 1000000 budget l) refl

  module _ (law : Planning m) (ds : List Decision) (few : length ds ≤ 64) (sizes : AllByRecursion (λ (d : Decision). (1 ≤ d.size) × (d.size ≤ 16)) ds) where
    law_of : (cs cs' : List Call) → PlanningLaw m ds cs cs'
    law_of = law ds (opens ds few sizes)

    -- a list is over the same rules as itself
    costs_of : (cs : List Call) → OneCost m (history m (fresh ds) cs) (history m (fresh ds) cs)
    costs_of cs = (law_of cs cs).two_lists (λ k r. refl)

    kept_of : (cs : List Call) → Kept m ds cs (history m (fresh ds) cs)
    kept_of cs = (law_of cs []).every_list

    -- a best that is told is the one that is held
    held_cost : (a : Account C) (b : Best C) → a.best ≡ Some b → (s : State) (c : C) → Reports m a s (Some c) → b.cost ≡ c
    held_cost a b is s c (buffer, bytes, h) =
        let t = subst (λ (o : Option (Best C)). Told (length a.book.decisions) buffer o (Some c) bytes) is (told m a buffer bytes s (Some c) h).1 in same_Some b.cost c (sym t.0)

    held_told : (a : Account C) (b : Best C) → a.best ≡ Some b → (s : State) → Reports m a s None → ⊥
    held_told a b is s (buffer, bytes, h) =
        let t = subst (λ (o : Option (Best C)). Told (length a.book.decisions) buffer o None bytes) is (told m a buffer bytes s None h).1 in none-some b.cost t.0

    long_run_lem : (cs : List Call) (budget : ℕ) → (sum_by (λ (d : Decision). d.size) ds + 2) ^ (length ds + 1) < budget → budget ≤ 1000000 → (k : ℕ) × (answer m (history m (fresh ds) cs) (run budget) ≡ ran k Settled)
    long_run_lem cs budget over most =
        let a = history m (fresh ds) cs in
        let is = run_answer a budget most in
        let most_steps = (kept_of (cs ++ run budget ∷ [])).steps_are_bounded in
        let counted : steps_since m 0 (fresh ds) cs + made m budget a ≤ (sum_by (λ (d : Decision). d.size) ds + 2) ^ (length ds + 1)
        = subst (λ (n : ℕ). n ≤ (sum_by (λ (d : Decision). d.size) ds + 2) ^ (length ds + 1)) (since_more 0 (fresh ds) cs (run budget) ∙ ap (tally (steps_since m 0 (fresh ds) cs) (run budget)) is) most_steps in
        let settled = (kept_of cs).short_run_is_settled budget (made m budget a) (advance m budget a).state is (omega (arith, counted, over)) in
        (made m budget a, is ∙ ap (ran (made m budget a)) settled)

    follows : (cs : List Call) → Follows m ds (history m (fresh ds) cs)
    follows cs =
        let a = history m (fresh ds) cs in
        let costs = costs_of cs in
        let kept = kept_of cs in
        let out : (r : Bool) (d v : ℕ) (e : Exclusion) → Excluded m a d v e → e.rests ≡ r → (p : Plan) → Beside m a d v e p → RulesOut m a r p =
        λ r d v e h rests p b. subst (λ (x : Bool). RulesOut m a x p) rests (kept.exclusions_are_true d v e h p b.lawful b.has b.agrees) in
        record {
          cheapest = λ c t. costs.least t.0 t.1 c t.2;
          hopeless = λ t. (costs.none t.0 t.1 None t.2).0 refl;
          barred = out false;
          beaten =
              λ d v e h rests s c t p b.
              let beats = out true d v e h rests p b in
              subst (λ (x : C). m.at_most x (cost m a.book.prices p) ≡ true) (held_cost a beats.0 beats.1 s c t) beats.2;
          best_is_held = λ d v e h rests s t. let best = kept.resting_needs_a_best d v e h rests in held_told a best.0 best.1 s t;
          long_run = long_run_lem cs;
        }

    one_cost : (cs cs' : List Call) → Reordered m (history m (fresh ds) cs) (history m (fresh ds) cs') → (c c' : Option C) → Reports m (history m (fresh ds) cs) Settled c → Reports m (history m (fresh ds) cs') Settled c' → c ≡ c'
    one_cost cs cs' same c c' t t' =
        ((law_of cs cs').two_lists (λ k r. sym (sum_by-IsPermutation (λ s. cond (same_rule r s) 1 0) (held (history m (fresh ds) cs).book k) (held (history m (fresh ds) cs').book k) (same k)))).same
        t.0 t'.0 t.1 t'.1 c c' t.2 t'.2

  pub consequences : Planning m → Consequences m
  consequences law ds few sizes cs cs' = (follows law ds few sizes cs, one_cost law ds few sizes cs cs')
