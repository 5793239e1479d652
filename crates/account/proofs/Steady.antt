-- One step keeps an account sound, and so does a run.
use Rattle.std.proofs.lemmas.Grind.{common_steps}
use Rattle.std.proofs.Common.{◌≡◌, ℕ, zero, suc, ◌<◌, ◌≤◌, Bool, true, false, cond, length, Some, None, Option, sym, refl, ap, ◌∙◌, ⊎_elim, arith}
use Rattle.std.proofs.lemmas.Bool.{or_left, or_right}
use Rattle.measure.specs.Meaning.{Meaning}
use Rattle.measure.proofs.Laws.{Laws}
use Rattle.rules.specs.Conditions.{Plan}
use Rattle.rules.specs.Plans.{Book, Lawful, cost, size_at}
use Rattle.account.specs.Accounts.{Account, Entry, Exclusion, Best, chosen}
use Rattle.account.specs.Law.{Agrees, RulesOut}
use Rattle.account.specs.Steps.{waits, support, choose, price_reason, tested, smallest_free, reasons, any_rests, with_exclusions, enter, extend, champion, conclude, step, advance_in, advance}
use Rattle.account.specs.declared.state.State.{State}
use Rattle.account.specs.declared.state.State.TheVariants.{Open, Settled}
use Rattle.account.proofs.Actives.{waits_ground, lawful_chooses, complete_lawful}
use Rattle.account.proofs.Finds.{picked, waits_idle, Free, smallest, reasons_of, rests_in, rests_of}
use Rattle.account.proofs.Prices.{price_bars, at_most_itself}
use Rattle.account.proofs.Shapes.{dead_end, tested_formed, dead_end_within, price_within, entered_formed}
use Rattle.account.proofs.Sound.{Good, Beaten, Sound, blame_sound}
use Rattle.account.proofs.Tested.{New, given_bars, given_within, given_rests, tested_some, tested_none}
use Rattle.std.proofs.lemmas.Option.{same_Some}
use Rattle.account.proofs.Trails.{chosen_here, chosen_other}

module _ {C : Type 0} (m : Meaning C) (laws : Laws m) where
  module _ (a : Account C) (s : Sound m a) (d : ℕ) (w : waits a.book (chosen a.trail) d ≡ true) where
    idle : chosen a.trail d ≡ 0
    idle = waits_idle a.book (chosen a.trail) d w

    off : (x : ℕ) → 0 < chosen a.trail x → x ≡ d → ⊥
    off x h q = omega (arith, idle, ap (chosen a.trail) q)

    -- with each value of the picked decision tested
    tested_sound : Sound m (with_exclusions a (tested m a d))
    tested_sound =
        record {
          formed = tested_formed m laws a s.formed d idle;
          known = s.known;
          grounded = s.grounded;
          unforbidden = s.unforbidden;
          barred = λ x v e h p law has agrees. ⊎_elim (λ k. s.barred x v e k p law has agrees) (λ k. new x v e k p law has agrees) (tested_some m a d x v e h);
          resting = λ x v e h r. ⊎_elim (λ k. s.resting x v e k r) (λ (k : New m a d x v e). given_rests m a d (choose (chosen a.trail) d v) laws e k.is_given r) (tested_some m a d x v e h);
          best_good = s.best_good;
          settled = s.settled;
        }
      where
        entry : ℕ → Entry
        entry v = record { decision = d; value = v; support = λ x. false }

        new : (x v : ℕ) (e : Exclusion) → New m a d x v e → (p : Plan) → Lawful a.book p → p x ≡ v → Agrees p (chosen a.trail) e.reason → RulesOut m a e.rests p
        new x v e k p law has agrees =
            given_bars m a d (choose (chosen a.trail) d v) laws e k.is_given p law
            (λ y r. agrees y r ∙ sym (chosen_other (entry v) a.trail y (given_within m a d (choose (chosen a.trail) d v) laws e k.is_given y r).1))
            (ap p (sym k.is_picked) ∙ has ∙ sym (chosen_here (entry v) a.trail d refl))

    -- with a free value entered
    entered_sound : (v : ℕ) → 1 ≤ v → v ≤ size_at a.book.decisions d → tested m a d d v ≡ None → Sound m (enter (with_exclusions a (tested m a d)) d (Some v))
    entered_sound v low high none =
        record {
          formed = entered_formed m laws (with_exclusions a (tested m a d)) tested_sound.formed d v idle low high none;
          known = s.known;
          grounded = (waits_ground a.book (chosen a.trail) d v w, s.grounded);
          unforbidden = (tested_none m a d v low high none).1;
          barred = λ x u e h p law has agrees. tested_sound.barred x u e h p law has (λ y r. agrees y r ∙ chosen_other entry a.trail y (off y (tested_sound.formed.reasoned x u e h y r)));
          resting = tested_sound.resting;
          best_good = s.best_good;
          settled = s.settled;
        }
      where
        entry : Entry
        entry = record { decision = d; value = v; support = support a.book (chosen a.trail) d }

    -- at a dead end every lawful plan that agrees with the blame is ruled out
    module _ (full : (v : ℕ) → 1 ≤ v → v ≤ size_at a.book.decisions d → (e : Exclusion) × (tested m a d d v ≡ Some e)) where
      dead_end_bars : (p : Plan) → Lawful a.book p → Agrees p (chosen a.trail) (dead_end m laws a d) → RulesOut m (with_exclusions a (tested m a d)) (any_rests (tested m a d d) (size_at a.book.decisions d)) p
      dead_end_bars p law agrees = go k.0.rests refl (tested_sound.barred d (p d) k.0 k.1 p law refl (λ x r. agrees x (or_left (reasons (tested m a d d) (size_at a.book.decisions d) x) (support a.book (chosen a.trail) d x) (reasons_of (tested m a d d) (size_at a.book.decisions d) (p d) k.0 value (law.in_range d) k.1 x r))))
        where
          value : 0 < p d
          value = lawful_chooses a.book (chosen a.trail) d w p law (λ x r. agrees x (or_right (reasons (tested m a d d) (size_at a.book.decisions d) x) (support a.book (chosen a.trail) d x) r))

          k : (e : Exclusion) × (tested m a d d (p d) ≡ Some e)
          k = full (p d) value (law.in_range d)

          go : (r : Bool) → k.0.rests ≡ r → RulesOut m (with_exclusions a (tested m a d)) r p → RulesOut m (with_exclusions a (tested m a d)) (any_rests (tested m a d d) (size_at a.book.decisions d)) p
          go false q h = absurd h
          go true q h = rw (rests_of (tested m a d d) (size_at a.book.decisions d) (p d) k.0 value (law.in_range d) k.1 q) h

      dead_end_held : any_rests (tested m a d d) (size_at a.book.decisions d) ≡ true → (b : Best C) × (a.best ≡ Some b)
      dead_end_held h = let k = rests_in (tested m a d d) (size_at a.book.decisions d) h in tested_sound.resting d k.0 k.1 k.2 k.3

    pub extend_sound : Sound m (extend m a d)
    unfolding extend
    extend_sound = go (smallest_free (tested m a d d) (size_at a.book.decisions d)) (smallest (tested m a d d) (size_at a.book.decisions d))
      where
        go : (o : Option ℕ) → Free (tested m a d d) (size_at a.book.decisions d) o → Sound m (enter (with_exclusions a (tested m a d)) d o)
        go (Some v) h = entered_sound v h.0 h.1 h.2
        go None h =
            blame_sound m (with_exclusions a (tested m a d)) tested_sound (dead_end m laws a d) (any_rests (tested m a d d) (size_at a.book.decisions d)) (dead_end_within m laws a s.formed d idle) (dead_end_bars h) (dead_end_held h)

  -- the best that a complete trail leaves
  pub record Champion (b : Book) (old : Option (Best C)) (p : Plan) (best : Best C) : Type 0 where
    pub is_good : Good m b best
    -- the trail is not better
    pub below : m.at_most best.cost (cost m b.prices p) ≡ true
    -- what is better than the new best is better than the old one
    pub no_worse : (q : Plan) → Beaten m b old q → Beaten m b (Some best) q

  pub crowned : (b : Book) (old : Option (Best C)) → ((best : Best C) → old ≡ Some best → Good m b best) → (p : Plan) → Lawful b p → Champion b old p (champion m old (record { plan = p; cost = cost m b.prices p }))
  crowned b None good p law = record { is_good = record { lawful = law; costs = refl }; below = at_most_itself m laws (cost m b.prices p); no_worse = λ q h. absurd h }
  crowned b (Some o) good p law = go (m.at_most o.cost (cost m b.prices p)) refl
    where
      go : (t : Bool) → m.at_most o.cost (cost m b.prices p) ≡ t → Champion b (Some o) p (cond t o (record { plan = p; cost = cost m b.prices p }))
      go true e = record { is_good = good o refl; below = e; no_worse = λ q h. h }
      go false e = grind (arith, common_steps)

  module _ (a : Account C) (s : Sound m a) (rest : (d : ℕ) → d < length a.book.decisions → waits a.book (chosen a.trail) d ≡ false) where
    law : Lawful a.book (chosen a.trail)
    law = complete_lawful a.book a.trail s.formed.distinct s.grounded s.known.known_targets s.unforbidden rest

    module _ (best : Best C) (c : Champion a.book a.best (chosen a.trail) best) where
      -- a better best keeps an account sound
      crowned_sound : Sound m (record { book = a.book; ranks = a.ranks; trail = a.trail; exclusions = a.exclusions; best = Some best; state = a.state })
      crowned_sound =
          record {
            formed = record { distinct = s.formed.distinct; in_range = s.formed.in_range; reasoned = s.formed.reasoned; free = s.formed.free };
            known = s.known;
            grounded = s.grounded;
            unforbidden = s.unforbidden;
            barred = λ d v e h p law has agrees. still e.rests p (s.barred d v e h p law has agrees);
            resting = λ d v e h r. (best, refl);
            best_good = λ b q. rw (← same_Some best b q) c.is_good;
            settled = λ e p law. c.no_worse p (s.settled e p law);
          }
        where
          still : (r : Bool) (p : Plan) → RulesOut m a r p → RulesOut m (record { book = a.book; ranks = a.ranks; trail = a.trail; exclusions = a.exclusions; best = Some best; state = a.state }) r p
          still false p h = h
          still true p h = (best, refl, c.no_worse p (rw h.1 h.2))

    pub conclude_sound : Sound m (conclude m a)
    unfolding conclude
    conclude_sound =
        let b = champion m a.best (record { plan = chosen a.trail; cost = cost m a.book.prices (chosen a.trail) }) in
        let c = crowned a.book a.best s.best_good (chosen a.trail) law in
        blame_sound m (record { book = a.book; ranks = a.ranks; trail = a.trail; exclusions = a.exclusions; best = Some b; state = a.state }) (crowned_sound b c) (price_reason m a.book b.cost (chosen a.trail)) true (price_within m laws a b.cost)
        (λ p lawful agrees. (b, refl, price_bars m laws a.book b.cost (chosen a.trail) p c.below agrees))
        (λ h. (b, refl))

  -- one step keeps an account sound
  pub step_sound : (a : Account C) → Sound m a → Sound m (step m a)
  unfolding step
  step_sound a s = grind (arith, common_steps, chosen, picked, conclude_sound, extend_sound)

  -- so do so many
  pub advance_sound : (n : ℕ) (a : Account C) → Sound m a → Sound m (advance m n a)
  advance_sound zero a s = s
  advance_sound (suc n) a s = go (advance m n a).state (advance_sound n a s)
    where
      go : (t : State) → Sound m (advance m n a) → Sound m (advance_in m (advance m n a) t)
      go Open k = step_sound (advance m n a) k
      go Settled k = k
