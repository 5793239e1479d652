-- A blame stays within the trail, and one step keeps an account formed.
use Rattle.std.proofs.lemmas.Grind.{common_steps}
use Rattle.std.proofs.lemmas.Grind.{common_steps}
use Rattle.std.proofs.Common.{◌≡◌, ℕ, ◌<◌, ◌≤◌, Bool, true, false, Some, None, Option, ap, ◌∙◌, ⊎_elim, arith}
use Rattle.std.proofs.lemmas.Bool.{or_cases}
use Rattle.measure.specs.Meaning.{Meaning}
use Rattle.measure.proofs.Laws.{Laws}
use Rattle.rules.specs.Plans.{Set, size_at, cost}
use Rattle.account.specs.Accounts.{Account, Exclusion, chosen, either}
use Rattle.account.specs.Steps.{waits, support, choose, price_reason, tested, smallest_free, reasons, any_rests, Retreat, retreat, relearn, blamed, blame, with_exclusions, enter, extend, champion, conclude, step}
use Rattle.account.proofs.Finds.{picked, waits_idle, support_chosen, Free, smallest, reasons_in}
use Rattle.account.proofs.Formed.{Formed}
use Rattle.account.proofs.Prices.{price_chosen}
use Rattle.account.proofs.Tested.{Given, New, given_within, tested_some, tested_other, relearned}
use Rattle.account.proofs.Trails.{Within, chosen_other, chosen_range, Left, Retreated, retreated}

module _ {C : Type 0} (a : Account C) (f : Formed a) (s : Set) (rests : Bool) (w : Within a.trail s) where
  module _ (r : Retreat) (l : Left a.book s a.trail r) where
    in_range : (d v : ℕ) (e : Exclusion) → relearn a.exclusions s rests r d v ≡ Some e → (1 ≤ v) × (v ≤ size_at a.book.decisions d)
    in_range d v e h = grind (arith, common_steps, relearned, chosen_range)

    reasoned : (d v : ℕ) (e : Exclusion) → relearn a.exclusions s rests r d v ≡ Some e → (x : ℕ) → e.reason x ≡ true → 0 < chosen r.stays x
    reasoned d v e h x t = grind (arith, common_steps)

    free : (d : ℕ) → 0 < chosen r.stays d → relearn a.exclusions s rests r d (chosen r.stays d) ≡ None
    free d h = grind (arith, common_steps)

  -- a blame within the trail keeps an account formed
  pub blame_formed : Formed (blame a s rests)
  blame_formed = go (retreat s a.trail) (retreated a.book s a.trail f.distinct)
    where
      go : (o : Option Retreat) → Retreated a.book s a.trail o → Formed (blamed a s rests o)
      go None h = record { distinct = f.distinct; in_range = f.in_range; reasoned = f.reasoned; free = f.free }
      go (Some r) l = record { distinct = l.distinct; in_range = in_range r l; reasoned = reasoned r l; free = free r l }

module _ {C : Type 0} (m : Meaning C) (laws : Laws m) where
  -- the blame of a dead end
  abbrev pub dead_end : Account C → ℕ → Set
  dead_end a d = either (reasons (tested m a d d) (size_at a.book.decisions d)) (support a.book (chosen a.trail) d)

  -- the test of the values of a decision off the trail keeps an account formed
  pub tested_formed : (a : Account C) → Formed a → (d : ℕ) → chosen a.trail d ≡ 0 → Formed (with_exclusions a (tested m a d))
  tested_formed a f d idle =
      record {
        distinct = f.distinct;
        in_range = λ x v e h. ⊎_elim (λ k. f.in_range x v e k) (λ (k : New m a d x v e). (k.low, rw k.is_picked k.high)) (tested_some m a d x v e h);
        reasoned = λ x v e h y t. ⊎_elim (λ k. f.reasoned x v e k y t) (λ (k : New m a d x v e). new v e k.is_given y t) (tested_some m a d x v e h);
        free = λ x h. tested_other m a d x (chosen a.trail x) (λ (q : x ≡ d). omega (arith, idle, ap (chosen a.trail) q)) ∙ f.free x h;
      }
    where
      new : (v : ℕ) (e : Exclusion) → Given m a d (choose (chosen a.trail) d v) (Some e) → (y : ℕ) → e.reason y ≡ true → 0 < chosen a.trail y
      new v e g y t =
          let parts = given_within m a d (choose (chosen a.trail) d v) laws e g y t in
          rw (chosen_other (record { decision = d; value = v; support = λ x. false }) a.trail y parts.1) at parts.0

  -- the blame of a dead end is within the trail
  pub dead_end_within : (a : Account C) → Formed a → (d : ℕ) → chosen a.trail d ≡ 0 → Within a.trail (dead_end a d)
  dead_end_within a f d idle x t =
      ⊎_elim
      (λ h. let k = reasons_in (tested m a d d) (size_at a.book.decisions d) x h in (tested_formed a f d idle).reasoned d k.0 k.1 k.2 x k.3)
      (λ h. support_chosen a.book (chosen a.trail) d x h)
      (or_cases (reasons (tested m a d d) (size_at a.book.decisions d) x) (support a.book (chosen a.trail) d x) t)

  -- the blame of a complete trail is within the trail
  pub price_within : (a : Account C) (best : C) → Within a.trail (price_reason m a.book best (chosen a.trail))
  price_within a best x t = price_chosen m laws a.book best (chosen a.trail) x t

  -- an entry keeps an account formed
  pub entered_formed : (a : Account C) → Formed a → (d v : ℕ) → chosen a.trail d ≡ 0 → 1 ≤ v → v ≤ size_at a.book.decisions d → a.exclusions d v ≡ None → Formed (enter a d (Some v))
  entered_formed a f d v idle low high none = grind (arith, common_steps)

  pub extend_formed : (a : Account C) → Formed a → (d : ℕ) → waits a.book (chosen a.trail) d ≡ true → Formed (extend m a d)
  unfolding extend
  extend_formed a f d w = go (smallest_free (tested m a d d) (size_at a.book.decisions d)) (smallest (tested m a d d) (size_at a.book.decisions d))
    where
      idle : chosen a.trail d ≡ 0
      idle = waits_idle a.book (chosen a.trail) d w

      go : (o : Option ℕ) → Free (tested m a d d) (size_at a.book.decisions d) o → Formed (enter (with_exclusions a (tested m a d)) d o)
      go (Some v) h = entered_formed (with_exclusions a (tested m a d)) (tested_formed a f d idle) d v idle h.0 h.1 h.2
      go None h = blame_formed (with_exclusions a (tested m a d)) (tested_formed a f d idle) (dead_end a d) (any_rests (tested m a d d) (size_at a.book.decisions d)) (dead_end_within a f d idle)

  pub conclude_formed : (a : Account C) → Formed a → Formed (conclude m a)
  unfolding conclude
  conclude_formed a f =
      let b = champion m a.best (record { plan = chosen a.trail; cost = cost m a.book.prices (chosen a.trail) }) in
      blame_formed (record { book = a.book; ranks = a.ranks; trail = a.trail; exclusions = a.exclusions; best = Some b; state = a.state })
      (record { distinct = f.distinct; in_range = f.in_range; reasoned = f.reasoned; free = f.free })
      (price_reason m a.book b.cost (chosen a.trail)) true (price_within a b.cost)

  -- one step keeps an account formed
  pub step_formed : (a : Account C) → Formed a → Formed (step m a)
  unfolding step
  step_formed a f = grind (arith, common_steps, chosen, picked, conclude_formed, extend_formed)
