-- What holds of every account reached by calls, and that a blame keeps it.
use Rattle.std.proofs.lemmas.Grind.{common_steps}
use Rattle.std.proofs.Common.{◌≡◌, ℕ, ◌<◌, ◌≤◌, Bool, true, false, List, length, Some, None, Option, sym, ◌∙◌, ⊎_elim, arith}
use Rattle.std.specs.List.{AllByRecursion}
use Rattle.std.proofs.ByRecursion.{All-weaker}
use Rattle.std.proofs.lemmas.Bool.{cases_Bool, both_ways}
use Rattle.measure.specs.Meaning.{Meaning}
use Rattle.rules.specs.Conditions.{Plan, condition, met}
use Rattle.rules.specs.Plans.{Book, Set, Lawful, cost}
use Rattle.rules.specs.declared.row.Row.{Row}
use Rattle.account.specs.Accounts.{Account, Entry, Exclusion, Best, chosen, except, has_any}
use Rattle.account.specs.Law.{Agrees, RulesOut}
use Rattle.account.specs.Steps.{Retreat, retreat, relearn, blamed, blame}
use Rattle.account.specs.declared.state.State.TheVariants.{Settled}
use Rattle.account.proofs.Formed.{Formed}
use Rattle.account.proofs.Meeting.{met_fewer}
use Rattle.account.proofs.Shapes.{blame_formed}
use Rattle.account.proofs.Tested.{relearned}
use Rattle.account.proofs.Trails.{Within, Grounded, Left, Retreated, retreated}

-- a best is lawful, and its cost is the defined one
pub record Good {C : Type 0} (m : Meaning C) (b : Book) (best : Best C) : Type 0 where
  pub lawful : Lawful b best.plan
  pub costs : best.cost ≡ cost m b.prices best.plan

-- a plan costs at least what the held best does; none does where none is held
abbrev pub Beaten : {C : Type 0} → Meaning C → Book → Option (Best C) → Plan → Type 0
Beaten m b None p = ⊥
Beaten m b (Some best) p = m.at_most best.cost (cost m b.prices p) ≡ true

-- rules as accepted calls leave them: a forbid rule has a pair, the target of an activate rule is a decision
pub record Known (b : Book) : Type 0 where
  pub some_pair : AllByRecursion (λ r. 1 ≤ length (condition r)) b.forbids
  pub known_targets : AllByRecursion (λ r. r.target < length b.decisions) b.activates

pub record Sound {C : Type 0} (m : Meaning C) (a : Account C) : Type 0 where
  pub formed : Formed a
  pub known : Known a.book
  -- every entry is grounded in the older ones
  pub grounded : Grounded a.book a.trail
  -- the trail meets no forbid rule
  pub unforbidden : AllByRecursion (λ r. met (chosen a.trail) r ≡ false) a.book.forbids
  -- a lawful plan with an excluded value and the trail's values for the reason is ruled out
  pub barred : (d v : ℕ) (e : Exclusion) → a.exclusions d v ≡ Some e → (p : Plan) → Lawful a.book p → p d ≡ v → Agrees p (chosen a.trail) e.reason → RulesOut m a e.rests p
  -- what rests on the best has one
  pub resting : (d v : ℕ) (e : Exclusion) → a.exclusions d v ≡ Some e → e.rests ≡ true → (b : Best C) × (a.best ≡ Some b)
  pub best_good : (b : Best C) → a.best ≡ Some b → Good m a.book b
  pub settled : a.state ≡ Settled → (p : Plan) → Lawful a.book p → Beaten m a.book a.best p

-- what is ruled out costs at least the best
pub ruled_beaten : {C : Type 0} (m : Meaning C) (a : Account C) (rests : Bool) (p : Plan) → RulesOut m a rests p → Beaten m a.book a.best p
ruled_beaten m a false p h = absurd h
ruled_beaten m a true p h = rw h.1 h.2

-- a retreat leaves a trail that meets no more
pub fewer_met : (b : Book) (s : Set) (es : List Entry) (r : Retreat) → Left b s es r → (rs : List Row) → AllByRecursion (λ w. met (chosen es) w ≡ false) rs → AllByRecursion (λ w. met (chosen r.stays) w ≡ false) rs
fewer_met b s es r l rs all = All-weaker (λ w. met (chosen es) w ≡ false) (λ w. met (chosen r.stays) w ≡ false) one rs all
  where
    same : (x : ℕ) → 0 < chosen r.stays x → chosen es x ≡ chosen r.stays x
    same x h = ⊎_elim (λ q. sym q) (λ q. absurd (omega (arith, q.0))) (l.each x)

    one : (w : Row) → met (chosen es) w ≡ false → met (chosen r.stays) w ≡ false
    one w h = ⊎_elim (λ t. absurd (both_ways (met (chosen es) w) h (met_fewer w (chosen r.stays) (chosen es) same t))) (λ t. t) (cases_Bool (met (chosen r.stays) w))

-- a blame within the trail, against which every lawful plan is barred
module _ {C : Type 0} (m : Meaning C) (a : Account C) (s : Sound m a) (set : Set) (rests : Bool) (w : Within a.trail set) (bars : (p : Plan) → Lawful a.book p → Agrees p (chosen a.trail) set → RulesOut m a rests p) (held : rests ≡ true → (b : Best C) × (a.best ≡ Some b)) where
  module _ (r : Retreat) (l : Left a.book set a.trail r) where
    barred_then : (d v : ℕ) (e : Exclusion) → relearn a.exclusions set rests r d v ≡ Some e → (p : Plan) → Lawful a.book p → p d ≡ v → Agrees p (chosen r.stays) e.reason → RulesOut m a e.rests p
    barred_then d v e h p law has agrees = ⊎_elim new old (relearned a.exclusions set rests r d v e h)
      where
        new : (d ≡ r.culprit.decision) × (v ≡ r.culprit.value) × (e ≡ record { reason = except set r.culprit.decision; rests = rests }) → RulesOut m a e.rests p
        new k = grind (arith, common_steps)

        old : (a.exclusions d v ≡ Some e) × (has_any e.reason r.left ≡ false) → RulesOut m a e.rests p
        old k =
            s.barred d v e k.0 p law has
            (λ x t. ⊎_elim (λ q. agrees x t ∙ q) (λ q. absurd (both_ways (has_any e.reason r.left) k.1 (q.1 e.reason t))) (l.each x))

    resting_then : (d v : ℕ) (e : Exclusion) → relearn a.exclusions set rests r d v ≡ Some e → e.rests ≡ true → (b : Best C) × (a.best ≡ Some b)
    resting_then d v e h t = ⊎_elim (λ k. held (rw k.2 at t)) (λ k. s.resting d v e k.0 t) (relearned a.exclusions set rests r d v e h)

  pub blame_sound : Sound m (blame a set rests)
  blame_sound = go (retreat set a.trail) (retreated a.book set a.trail s.formed.distinct) (blame_formed a s.formed set rests w)
    where
      nothing : ((x : ℕ) → 0 < chosen a.trail x → set x ≡ false) → (p : Plan) → Agrees p (chosen a.trail) set
      nothing h p x t = absurd (both_ways (set x) (h x (w x t)) t)

      go : (o : Option Retreat) → Retreated a.book set a.trail o → Formed (blamed a set rests o) → Sound m (blamed a set rests o)
      go None h f =
          record {
            formed = f;
            known = s.known;
            grounded = s.grounded;
            unforbidden = s.unforbidden;
            barred = s.barred;
            resting = s.resting;
            best_good = s.best_good;
            settled = λ e p law. ruled_beaten m a rests p (bars p law (nothing h p));
          }
      go (Some r) l f =
          record {
            formed = f;
            known = s.known;
            grounded = l.grounded s.grounded;
            unforbidden = fewer_met a.book set a.trail r l a.book.forbids s.unforbidden;
            barred = λ d v e h p law has agrees. again e.rests p (barred_then r l d v e h p law has agrees);
            resting = resting_then r l;
            best_good = s.best_good;
            settled = s.settled;
          }
        where
          again : (t : Bool) (p : Plan) → RulesOut m a t p → RulesOut m (blamed a set rests (Some r)) t p
          again false p h = h
          again true p h = h
