-- An accepted change of rules keeps an account sound.
use Rattle.std.proofs.lemmas.Grind.{common_steps}
use Rattle.std.proofs.Common.{◌≡◌, ℕ, zero, suc, ◌<◌, ◌≤◌, Bool, true, false, not, ◌&&◌, List, [], ◌∷◌, ◌++◌, length, take, drop, Some, None, Option, sym, refl, ap, ◌∙◌, ⊎_elim, arith}
use Rattle.std.specs.List.{remove, AllByRecursion}
use Rattle.std.proofs.ByRecursion.{All-weaker, All-append, All-take, All-drop}
use Rattle.std.proofs.lemmas.Bool.{and_parts, cases_eq, both_ways, not-true}
use Rattle.measure.specs.Meaning.{Meaning}
use Rattle.measure.proofs.Laws.{Laws}
use Rattle.rules.specs.Conditions.{Plan, condition, met}
use Rattle.rules.specs.Plans.{Book, Set, Lawful, cost, is_lawful}
use Rattle.rules.specs.declared.row.Kind.{Kind}
use Rattle.rules.specs.declared.row.Kind.TheVariants.{Forbid, Activate, Price}
use Rattle.rules.specs.declared.row.Row.{Row}
use Rattle.rules.proofs.Lawfulness.{lawful_from_test}
use Rattle.account.specs.Accounts.{Account, Exclusion, Best, chosen, empty_below}
use Rattle.account.specs.Changes.{keep_if, reopened, best_meets, unless_met, repriced, if_lawful, added, withdrawn}
use Rattle.account.specs.Law.{RulesOut}
use Rattle.account.specs.declared.state.State.TheVariants.{Open, Settled}
use Rattle.account.proofs.Meeting.{met_nothing}
use Rattle.account.proofs.Prices.{cost_unmet, cost_more}
use Rattle.account.proofs.Sound.{Good, Known, Sound}
use Rattle.std.proofs.lemmas.Option.{none-some, same_Some}
use Rattle.account.proofs.Trails.{chosen_known}

-- what has none of the decisions below n has none of them
pub empty_below_lem : (s : Set) (n x : ℕ) → empty_below s n ≡ true → x < n → s x ≡ true → ⊥
empty_below_lem s zero x h l t = omega arith
empty_below_lem s (suc n) x h l t =
    let parts = and_parts (not (s n)) (empty_below s n) h in
    ⊎_elim (λ (q : x ≡ n). both_ways (s n) (not-true (s n) parts.0) (rw q at t)) (λ (ne : x ≡ n → ⊥). empty_below_lem s n x parts.1 (omega arith) t) (cases_eq x n)

keep_if_some : (test : Exclusion → Bool) (o : Option Exclusion) (e : Exclusion) → keep_if test o ≡ Some e → (o ≡ Some e) × (test e ≡ true)
keep_if_some test None e h = absurd (none-some e h)
keep_if_some test (Some f) e h = grind (arith, common_steps)

pub open_settled : Open ≡ Settled → ⊥
open_settled h = let z : ◌≡◌ {A = ℕ} 0 1 = cc in omega arith

-- a book with other rules
abbrev pub ruled : Book → List Row → List Row → List Row → Book
ruled b fs ts ps = record { decisions = b.decisions; forbids = fs; activates = ts; prices = ps }

-- what is lawful does not change with the prices, and with the forbid rules only as they are met
pub relawful : (b : Book) (fs ps : List Row) (p : Plan) → Lawful b p → AllByRecursion (λ r. met p r ≡ false) fs → Lawful (ruled b fs b.activates ps) p
relawful b fs ps p law none =
    record {
      only_active = λ d h s closed. law.only_active d h s (record { marked = closed.marked; enabled = closed.enabled });
      all_active = λ d act. law.all_active d (λ s closed. act s (record { marked = closed.marked; enabled = closed.enabled }));
      in_range = law.in_range;
      unforbidden = none;
    }

pub unlawful : (b : Book) (fs ps : List Row) (p : Plan) → Lawful (ruled b fs b.activates ps) p → AllByRecursion (λ r. met p r ≡ false) b.forbids → Lawful b p
unlawful b fs ps p law none =
    record {
      only_active = λ d h s closed. law.only_active d h s (record { marked = closed.marked; enabled = closed.enabled });
      all_active = λ d act. law.all_active d (λ s closed. act s (record { marked = closed.marked; enabled = closed.enabled }));
      in_range = law.in_range;
      unforbidden = none;
    }

-- a lawful plan is idle behind the last decision
pub lawful_idle : (b : Book) (p : Plan) → Lawful b p → (d : ℕ) → length b.decisions ≤ d → p d ≡ 0
lawful_idle b p law d h = grind (arith, common_steps)

pub all_left : {X : Type 0} (P : X → Type 0) (xs ys : List X) → AllByRecursion P (xs ++ ys) → AllByRecursion P xs
all_left P [] ys h = tt
all_left P (x ∷ xs) ys h = (h.0, all_left P xs ys h.1)

pub all_removed : {X : Type 0} (P : X → Type 0) (xs : List X) (k : ℕ) → AllByRecursion P xs → AllByRecursion P (remove xs k)
all_removed P xs k h = All-append P (take k xs) (drop (suc k) xs) (All-take P k xs h) (All-drop P (suc k) xs h)

-- a change of rules, where what is kept still holds
module _ {C : Type 0} (m : Meaning C) (a : Account C) (s : Sound m a) (fs ts ps : List Row) (known : Known (ruled a.book fs ts ps)) (best : Option (Best C)) (good : (b : Best C) → best ≡ Some b → Good m (ruled a.book fs ts ps) b) (keep : Exclusion → Bool) (bars : (e : Exclusion) → keep e ≡ true → (p : Plan) → Lawful (ruled a.book fs ts ps) p → (Lawful a.book p → RulesOut m a e.rests p) → RulesOut m (reopened a (ruled a.book fs ts ps) best keep) e.rests p) (held : (e : Exclusion) → keep e ≡ true → e.rests ≡ true → (b : Best C) × (a.best ≡ Some b) → (b : Best C) × (best ≡ Some b)) where
  stood : (d v : ℕ) (e : Exclusion) → keep_if (λ f. empty_below f.reason (length a.book.decisions) && keep f) (a.exclusions d v) ≡ Some e → (a.exclusions d v ≡ Some e) × (keep e ≡ true) × ((x : ℕ) → e.reason x ≡ true → ⊥)
  stood d v e h =
      let k = keep_if_some (λ f. empty_below f.reason (length a.book.decisions) && keep f) (a.exclusions d v) e h in
      let parts = and_parts (empty_below e.reason (length a.book.decisions)) (keep e) k.1 in
      (k.0, parts.1, λ x t. empty_below_lem e.reason (length a.book.decisions) x parts.0 (chosen_known a.book.decisions a.trail s.formed.distinct x (s.formed.reasoned d v e k.0 x t)) t)

  pub reopened_sound : Sound m (reopened a (ruled a.book fs ts ps) best keep)
  reopened_sound =
      record {
        formed =
            record {
              distinct = tt;
              in_range = λ d v e h. s.formed.in_range d v e (stood d v e h).0;
              reasoned = λ d v e h x t. absurd ((stood d v e h).2 x t);
              free = λ d h. absurd (omega arith);
            };
        known = known;
        grounded = tt;
        unforbidden = All-weaker (λ r. 1 ≤ length (condition r)) (λ r. met (chosen []) r ≡ false) (λ r some. met_nothing r some (chosen []) (λ x. refl)) fs known.some_pair;
        barred = λ d v e h p law has agrees. let k = stood d v e h in bars e k.1 p law (λ old. s.barred d v e k.0 p old has (λ x t. absurd (k.2 x t)));
        resting = λ d v e h r. let k = stood d v e h in held e k.1 r (s.resting d v e k.0 r);
        best_good = good;
        settled = λ e. absurd (open_settled e);
      }

module _ {C : Type 0} where
  unless_met_some : (r : Row) (o : Option (Best C)) (b : Best C) → unless_met r o ≡ Some b → (o ≡ Some b) × (met b.plan r ≡ false)
  unless_met_some r None b h = absurd (none-some b h)
  unless_met_some r (Some c) b h = grind (arith, common_steps)

  unless_met_same : (r : Row) (o : Option (Best C)) → best_meets o r ≡ false → unless_met r o ≡ o
  unless_met_same r None h = refl
  unless_met_same r (Some c) h = rw h refl

  if_lawful_some : (b : Book) (o : Option (Best C)) (best : Best C) → if_lawful b o ≡ Some best → (o ≡ Some best) × (is_lawful b best.plan ≡ true)
  if_lawful_some b None best h = absurd (none-some best h)
  if_lawful_some b (Some c) best h = grind (arith, common_steps)

  repriced_some : (m : Meaning C) (ps : List Row) (o : Option (Best C)) (b : Best C) → repriced m ps o ≡ Some b → (c : Best C) × (o ≡ Some c) × (b ≡ record { plan = c.plan; cost = cost m ps c.plan })
  repriced_some m ps None b h = absurd (none-some b h)
  repriced_some m ps (Some c) b h = (c, refl, sym (same_Some (record { plan = c.plan; cost = cost m ps c.plan }) b h))

-- what a best that meets the rule may not carry does not rest on it
unmet_if_rests : (x y : Bool) → not (x && y) ≡ true → y ≡ true → x ≡ false
unmet_if_rests true true h e = sym h
unmet_if_rests true false h e = absurd (both_ways false refl e)
unmet_if_rests false y h e = refl

module _ {C : Type 0} (m : Meaning C) (laws : Laws m) (a : Account C) (s : Sound m a) where
  -- no exclusion is kept
  gone : {P : Type 0} → false ≡ true → P
  gone h = absurd (both_ways false refl h)

  -- the best, if it is lawful by a book with other activate rules
  module _ (ts : List Row) (targets : AllByRecursion (λ r. r.target < length a.book.decisions) ts) where
    activates_sound : Sound m (reopened a (ruled a.book a.book.forbids ts a.book.prices) (if_lawful (ruled a.book a.book.forbids ts a.book.prices) a.best) (λ e. false))
    activates_sound =
        reopened_sound m a s a.book.forbids ts a.book.prices (record { some_pair = s.known.some_pair; known_targets = targets })
        (if_lawful (ruled a.book a.book.forbids ts a.book.prices) a.best) good (λ e. false) (λ e k p law old. gone k) (λ e k r h. gone k)
      where
        good : (b : Best C) → if_lawful (ruled a.book a.book.forbids ts a.book.prices) a.best ≡ Some b → Good m (ruled a.book a.book.forbids ts a.book.prices) b
        good b h =
            let k = if_lawful_some (ruled a.book a.book.forbids ts a.book.prices) a.best b h in
            let old = s.best_good b k.0 in
            record { lawful = lawful_from_test (ruled a.book a.book.forbids ts a.book.prices) b.plan targets (lawful_idle a.book b.plan old.lawful) k.1; costs = old.costs }

  -- the best at another price
  repriced_good : (ps : List Row) (b : Best C) → repriced m ps a.best ≡ Some b → Good m (ruled a.book a.book.forbids a.book.activates ps) b
  repriced_good ps b h =
      let k = repriced_some m ps a.best b h in
      let old = s.best_good k.0 k.1 in
      rw k.2 (record { lawful = relawful a.book a.book.forbids ps k.0.plan old.lawful old.lawful.unforbidden; costs = refl })

  repriced_held : (ps : List Row) → (b : Best C) × (a.best ≡ Some b) → (b : Best C) × (repriced m ps a.best ≡ Some b)
  repriced_held ps h = (record { plan = h.0.plan; cost = cost m ps h.0.plan }, ap (repriced m ps) h.1)

  module _ (r : Row) where
    forbid_added : 1 ≤ length (condition r) → Sound m (added m a Forbid r)
    unfolding added
    forbid_added some =
        reopened_sound m a s (a.book.forbids ++ r ∷ []) a.book.activates a.book.prices
        (record { some_pair = All-append (λ w. 1 ≤ length (condition w)) a.book.forbids (r ∷ []) s.known.some_pair (some, tt); known_targets = s.known.known_targets })
        (unless_met r a.best) good (λ e. not (best_meets a.best r && e.rests))
        (λ e k p law old. still e.rests p (old (unlawful a.book (a.book.forbids ++ r ∷ []) a.book.prices p law (all_left (λ w. met p w ≡ false) a.book.forbids (r ∷ []) law.unforbidden))) k)
        (λ e k rests h. (h.0, unless_met_same r a.best (unmet_if_rests (best_meets a.best r) e.rests k rests) ∙ h.1))
      where
        good : (b : Best C) → unless_met r a.best ≡ Some b → Good m (ruled a.book (a.book.forbids ++ r ∷ []) a.book.activates a.book.prices) b
        good b h =
            let k = unless_met_some r a.best b h in
            let old = s.best_good b k.0 in
            record {
              lawful = relawful a.book (a.book.forbids ++ r ∷ []) a.book.prices b.plan old.lawful (All-append (λ w. met b.plan w ≡ false) a.book.forbids (r ∷ []) old.lawful.unforbidden (k.1, tt));
              costs = old.costs;
            }

        still : (t : Bool) (p : Plan) → RulesOut m a t p → not (best_meets a.best r && t) ≡ true → RulesOut m (reopened a (ruled a.book (a.book.forbids ++ r ∷ []) a.book.activates a.book.prices) (unless_met r a.best) (λ e. not (best_meets a.best r && e.rests))) t p
        still false p h k = absurd h
        still true p h k = (h.0, unless_met_same r a.best (unmet_if_rests (best_meets a.best r) true k refl) ∙ h.1, h.2)

    activate_added : r.target < length a.book.decisions → Sound m (added m a Activate r)
    unfolding added
    activate_added known =
        activates_sound (a.book.activates ++ r ∷ []) (All-append (λ w. w.target < length a.book.decisions) a.book.activates (r ∷ []) s.known.known_targets (known, tt))

    price_added : Sound m (added m a Price r)
    unfolding added repriced_held
    price_added =
        reopened_sound m a s a.book.forbids a.book.activates (a.book.prices ++ r ∷ []) (record { some_pair = s.known.some_pair; known_targets = s.known.known_targets })
        (repriced m (a.book.prices ++ r ∷ []) a.best) (repriced_good (a.book.prices ++ r ∷ [])) (λ e. not (best_meets a.best r && e.rests))
        (λ e k p law old. still e.rests p (old (unlawful a.book a.book.forbids (a.book.prices ++ r ∷ []) p law law.unforbidden)) k)
        (λ e k rests h. repriced_held (a.book.prices ++ r ∷ []) h)
      where
        still : (t : Bool) (p : Plan) → RulesOut m a t p → not (best_meets a.best r && t) ≡ true → RulesOut m (reopened a (ruled a.book a.book.forbids a.book.activates (a.book.prices ++ r ∷ [])) (repriced m (a.book.prices ++ r ∷ []) a.best) (λ e. not (best_meets a.best r && e.rests))) t p
        still false p h k = absurd h
        still true p h k =
            let new = repriced_held (a.book.prices ++ r ∷ []) (h.0, h.1) in
            let unmet : met h.0.plan r ≡ false = ap (λ (o : Option (Best C)). best_meets o r) (sym h.1) ∙ unmet_if_rests (best_meets a.best r) true k refl in (
              new.0,
              new.1,
              rw (cost_unmet m laws a.book.prices r h.0.plan unmet, ← (s.best_good h.0 h.1).costs)
                  (laws.transitive h.0.cost (cost m a.book.prices p) (cost m (a.book.prices ++ r ∷ []) p) h.2 (cost_more m laws a.book.prices r p)),
            )

  module _ (k : ℕ) where
    forbid_withdrawn : Sound m (withdrawn m a Forbid k)
    unfolding withdrawn
    forbid_withdrawn =
        reopened_sound m a s (remove a.book.forbids k) a.book.activates a.book.prices
        (record { some_pair = all_removed (λ w. 1 ≤ length (condition w)) a.book.forbids k s.known.some_pair; known_targets = s.known.known_targets })
        a.best good (λ e. false) (λ e kept p law old. gone kept) (λ e kept rests h. gone kept)
      where
        good : (b : Best C) → a.best ≡ Some b → Good m (ruled a.book (remove a.book.forbids k) a.book.activates a.book.prices) b
        good b h =
            let old = s.best_good b h in
            record { lawful = relawful a.book (remove a.book.forbids k) a.book.prices b.plan old.lawful (all_removed (λ w. met b.plan w ≡ false) a.book.forbids k old.lawful.unforbidden); costs = old.costs }

    activate_withdrawn : Sound m (withdrawn m a Activate k)
    unfolding withdrawn
    activate_withdrawn = activates_sound (remove a.book.activates k) (all_removed (λ w. w.target < length a.book.decisions) a.book.activates k s.known.known_targets)

    price_withdrawn : Sound m (withdrawn m a Price k)
    unfolding withdrawn
    price_withdrawn =
        reopened_sound m a s a.book.forbids a.book.activates (remove a.book.prices k) (record { some_pair = s.known.some_pair; known_targets = s.known.known_targets })
        (repriced m (remove a.book.prices k) a.best) (repriced_good (remove a.book.prices k)) (λ e. not e.rests)
        (λ e kept p law old. still e.rests p (old (unlawful a.book a.book.forbids (remove a.book.prices k) p law law.unforbidden)) kept)
        (λ e kept rests h. absurd (both_ways e.rests (not-true e.rests kept) rests))
      where
        still : (t : Bool) (p : Plan) → RulesOut m a t p → not t ≡ true → RulesOut m (reopened a (ruled a.book a.book.forbids a.book.activates (remove a.book.prices k)) (repriced m (remove a.book.prices k) a.best) (λ e. not e.rests)) t p
        still false p h kept = absurd h
        still true p h kept = gone kept

  -- an accepted rule more
  pub added_sound : (kind : Kind) (r : Row) → 1 ≤ length (condition r) → (kind ≡ Activate → r.target < length a.book.decisions) → Sound m (added m a kind r)
  added_sound Forbid r some known = forbid_added r some
  added_sound Activate r some known = activate_added r (known refl)
  added_sound Price r some known = price_added r

  -- a rule less
  pub withdrawn_sound : (kind : Kind) (k : ℕ) → Sound m (withdrawn m a kind k)
  withdrawn_sound Forbid k = forbid_withdrawn k
  withdrawn_sound Activate k = activate_withdrawn k
  withdrawn_sound Price k = price_withdrawn k
