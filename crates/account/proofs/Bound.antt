-- At most (V + 2) ^ (N + 1) steps between two changes of rules, for N decisions of V values in all.
use Rattle.std.proofs.lemmas.Grind.{common_steps}
use Rattle.std.proofs.Common.{◌≡◌, ℕ, zero, suc, ◌+◌, ◌^◌, ◌<◌, ◌≤◌, Bool, true, false, ◌&&◌, List, [], ◌∷◌, length, Some, None, sum_by, Option, refl, add_assoc, arith}
use Rattle.std.proofs.lemmas.Bool.{cond_both}
use Rattle.measure.specs.Meaning.{Meaning}
use Rattle.measure.proofs.Laws.{Laws}
use Rattle.rules.specs.Plans.{Set, size_at, cost}
use Rattle.rules.specs.declared.decision.Decision.{Decision}
use Rattle.rules.specs.declared.refusal.Refusal.{Refusal}
use Rattle.account.specs.Accounts.{Account, Exclusion, Best, fresh, chosen}
use Rattle.account.specs.Calls.{Call, add, withdraw, rank, run, best, exclusion, unexcluded, refusal, made, answer, answer_if, accepted, after, after_if, leaves, is_change, steps_of, tally, steps_since, report}
use Rattle.account.specs.Steps.{Retreat, retreat, blamed, blame, with_exclusions, enter, extend, conclude, champion, price_reason, any_rests, support, tested, smallest_free, waits, step, step_at, advance, advance_in, one_if_open}
use Rattle.account.specs.declared.state.State.{State}
use Rattle.account.specs.declared.state.State.TheVariants.{Open, Settled}
use Rattle.account.proofs.Formed.{Formed}
use Rattle.account.proofs.Digits.{Excluded, base, height, trail_le, height_below, height_less, height_enters}
use Rattle.account.proofs.Finds.{Picked, picked, waits_idle}
use Rattle.account.proofs.Histories.{step_book, after_decisions, fresh_sound, after_sound}
use Rattle.account.proofs.Retreats.{retreat_rises}
use Rattle.account.proofs.Shapes.{dead_end, tested_formed, dead_end_within, price_within, step_formed}
use Rattle.account.proofs.Sound.{Sound}
use Rattle.account.proofs.Trails.{Within}

-- the number of an account
abbrev pub height_of : {C : Type 0} → Account C → ℕ
height_of a = height a.book.decisions a.exclusions a.trail

-- what the number stays below
unfoldable pub bound : List Decision → ℕ
bound ds = (sum_by (λ (d : Decision). d.size) ds + 2) ^ (length ds + 1)

-- every exclusion of the one is one of the other
abbrev pub Extends : Excluded → Excluded → Type 0
Extends ex new = (d v : ℕ) (e : Exclusion) → ex d v ≡ Some e → new d v ≡ Some e

module _ {C : Type 0} (a : Account C) (f : Formed a) where
  pub height_bounded : height_of a < bound a.book.decisions
  unfolding bound base
  height_bounded = height_below a.book.decisions a.exclusions a.trail f.distinct

  module _ (ex : Excluded) (more : Extends a.exclusions ex) where
    -- exclusions more do not lower the number
    pub extending_keeps : height_of a ≤ height_of (with_exclusions a ex)
    extending_keeps = height_less a.book.decisions a.exclusions ex a.trail f.distinct (λ d v e is _. more d v e is)

    -- an entry raises it
    pub entering_rises : (d v : ℕ) → Formed (enter (with_exclusions a ex) d (Some v)) → height_of a < height_of (enter (with_exclusions a ex) d (Some v))
    entering_rises d v g =
        height_enters a.book.decisions a.exclusions ex a.trail f.distinct (λ d v e is _. more d v e is)
        (record { decision = d; value = v; support = support a.book (chosen a.trail) d })
        (trail_le a.book.decisions (enter (with_exclusions a ex) d (Some v)).trail g.distinct)

  -- so does a retreat
  pub retreating_rises : (s : Set) (rests : Bool) (r : Retreat) → Within a.trail s → retreat s a.trail ≡ Some r → height_of a < height_of (blamed a s rests (Some r))
  retreating_rises s rests r within is = retreat_rises a.book.decisions s a.trail f.distinct a.exclusions rests within r is f.free

  -- a blame settles or raises the number
  pub blame_rises : (s : Set) (rests : Bool) → Within a.trail s → (blame a s rests).state ≡ Open → height_of a < height_of (blame a s rests)
  blame_rises s rests within = grind (arith, common_steps, retreating_rises)

module _ {C : Type 0} (m : Meaning C) (laws : Laws m) where
  -- testing keeps every exclusion
  tested_extends : (a : Account C) (d : ℕ) → Extends a.exclusions (tested m a d)
  unfolding tested
  tested_extends a d x v e is = rw is refl

  module _ (a : Account C) (f : Formed a) where
    conclude_rises : (conclude m a).state ≡ Open → height_of a < height_of (conclude m a)
    unfolding conclude
    conclude_rises =
        let b = champion m a.best (record { plan = chosen a.trail; cost = cost m a.book.prices (chosen a.trail) }) in
        blame_rises (record { book = a.book; ranks = a.ranks; trail = a.trail; exclusions = a.exclusions; best = Some b; state = a.state })
        (record { distinct = f.distinct; in_range = f.in_range; reasoned = f.reasoned; free = f.free }) (price_reason m a.book b.cost (chosen a.trail)) true (price_within m laws a b.cost)

    enter_rises : (d : ℕ) → chosen a.trail d ≡ 0 → (o : Option ℕ) → Formed (enter (with_exclusions a (tested m a d)) d o) → (enter (with_exclusions a (tested m a d)) d o).state ≡ Open → height_of a < height_of (enter (with_exclusions a (tested m a d)) d o)
    enter_rises d idle (Some v) g _ = entering_rises a f (tested m a d) (tested_extends a d) d v g
    enter_rises d idle None g still =
        let rise = blame_rises (with_exclusions a (tested m a d)) (tested_formed m laws a f d idle) (dead_end m laws a d) (any_rests (tested m a d d) (size_at a.book.decisions d)) (dead_end_within m laws a f d idle) still in
        omega (arith, extending_keeps a f (tested m a d) (tested_extends a d))

    at_rises : (o : Option ℕ) → Picked (waits a.book (chosen a.trail)) (length a.book.decisions) o → Formed (step_at m a o) → (step_at m a o).state ≡ Open → height_of a < height_of (step_at m a o)
    unfolding extend
    at_rises None p g still = conclude_rises still
    at_rises (Some d) p g still = enter_rises d (waits_idle a.book (chosen a.trail) d p.1) (smallest_free (tested m a d d) (size_at a.book.decisions d)) g still

    -- each step raises the number, or settles
    pub step_rises : (step m a).state ≡ Open → height_of a < height_of (step m a)
    unfolding step
    step_rises = grind (arith, common_steps, at_rises, chosen, picked, step_formed)

  -- n steps can have been counted: while open, no more than the number
  abbrev Counted : ℕ → Account C → Type 0
  Counted n a = (a.state ≡ Open → n ≤ height_of a) × (n ≤ bound a.book.decisions)

  none_more : (n k : ℕ) (a : Account C) → k ≡ 0 → Counted n a → Counted (n + k) a
  none_more n k a e c = let z : n + k ≡ n = omega arith in rw z c

  anew : (a : Account C) → Counted 0 a
  anew a = (λ _. omega arith, omega arith)

  report_steps : (s : State) (n : ℕ) (buffer : List ℕ) (o : Option (Best C)) → steps_of (report s n buffer o) ≡ 0
  report_steps s n buffer None = refl
  report_steps s n buffer (Some b) = refl

  -- one more step
  in_counted : (n : ℕ) (a : Account C) → Formed a → Counted n a → (s : State) → a.state ≡ s → Formed (advance_in m a s) × Counted (n + one_if_open s) (advance_in m a s)
  in_counted n a f c Settled is = (f, none_more n 0 a refl c)
  in_counted n a f c Open is = grind (arith, common_steps, height_bounded, step_formed, step_rises, step_book)

  run_counted : (n : ℕ) (a : Account C) → Formed a → Counted n a → (k : ℕ) → Formed (advance m k a) × Counted (n + made m k a) (advance m k a)
  run_counted n a f c zero = (f, none_more n 0 a refl c)
  run_counted n a f c (suc k) =
      let before = run_counted n a f c k in
      let now = in_counted (n + made m k a) (advance m k a) before.0 before.1 (advance m k a).state refl in
      (now.0, rw (← add_assoc n (made m k a) (one_if_open (advance m k a).state)) now.1)

  leaves_counted : (n : ℕ) (a : Account C) → Formed a → Counted n a → (c : Call) → Counted (tally n c (accepted m a c)) (leaves m a c)
  leaves_counted n a f k (add r) = anew (leaves m a (add r))
  leaves_counted n a f k (withdraw i j) = anew (leaves m a (withdraw i j))
  leaves_counted n a f k (rank d r) = none_more n 0 (leaves m a (rank d r)) refl k
  leaves_counted n a f k (run b) = (run_counted n a f k b).1
  leaves_counted n a f k (best b) = none_more n (steps_of (accepted m a (best b))) a (report_steps a.state (length a.book.decisions) b a.best) k
  leaves_counted n a f k (exclusion d v) = none_more n 0 a refl k
  leaves_counted n a f k (unexcluded d) = none_more n 0 a refl k

  after_counted : (n : ℕ) (a : Account C) → Formed a → Counted n a → (c : Call) (o : Option Refusal) → Counted (tally n c (answer_if m a c o)) (after_if m a c o)
  after_counted n a f k c None = leaves_counted n a f k c
  after_counted n a f k c (Some e) =
      cond_both (is_change c && false) 0 (n + 0) (λ x. Counted x a) (λ _. anew a) (λ _. none_more n 0 a refl k)

  since_counted : (n : ℕ) (a : Account C) → Sound m a → Counted n a → (cs : List Call) → steps_since m n a cs ≤ bound a.book.decisions
  since_counted n a s k [] = k.1
  since_counted n a s k (c ∷ cs) = grind (arith, common_steps, since_counted (tally n c (answer m a c)) (after m a c) (after_sound m laws a c s) (after_counted n a s.formed k c (refusal a c)) cs, after_decisions, after_sound, after_counted)

  -- the steps made since the latest change of rules
  pub steps_bounded : (ds : List Decision) (cs : List Call) → steps_since m 0 (fresh ds) cs ≤ (sum_by (λ (d : Decision). d.size) ds + 2) ^ (length ds + 1)
  unfolding bound
  steps_bounded ds cs = since_counted 0 (fresh ds) (fresh_sound m ds) (anew (fresh ds)) cs
