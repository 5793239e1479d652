-- The account after the parts of a step.
use Rattle.std.proofs.lemmas.Grind.{common_steps}
use Rattle.std.proofs.Common.{◌≡◌, ℕ, zero, suc, ◌<◌, ◌≤◌, Bool, true, false, cond, not, ◌&&◌, ◌||◌, eqb, List, [], ◌∷◌, length, Some, None, Option, refl, ap, ◌∙◌, arith}
use Rattle.std.specs.Option.{option_or}
use mathlib.Core.Path.{fun_ext}
use Rattle.std.specs.List.{AllByRecursion}
use Rattle.account.proofs.Finds.{Picked, picked}
use Rattle.account.specs.Accounts.{Account, Entry, Exclusion, Best, chosen}
use Rattle.account.specs.Steps.{Retreat, any_rests, blame, blamed, champion, choose, conclude, extend, follow, is_free, is_value, pick, price_reason, reasons, retreat, smallest_free, step, step_at, support, test, tested, tested_at, unless_left, waits}
use Rattle.measure.specs.Meaning.{Meaning}
use Rattle.rules.specs.Conditions.{Plan}
use Rattle.rules.specs.Plans.{Book, Set, cost, size_at}
use Rattle.rules.specs.Refusals.{when}
use Rattle.tables.proofs.Entering.{Enters, proper_parts}
use Rattle.tables.proofs.Listed.{meets_any}
use Rattle.tables.specs.Entries.{in_list, proper}
use Rattle.tables.specs.Excluded.{unless_meets}
use Rattle.planner.specs.Bests.{cost_held}
use Rattle.planner.specs.Trials.{or_tried, tried_to, try_plan}

-- a decision below 64, with a value 1 to 16
abbrev pub InRange : Entry → Type 0
InRange e = (e.decision < 64) × (1 ≤ e.value) × (e.value ≤ 16)

pub culprit_in_range : (s : Set) (es : List Entry) (r : Retreat) → proper es ≡ true → retreat s es ≡ Some r → InRange r.culprit
unfolding retreat
culprit_in_range s [] r p h = absurd (let z : ◌≡◌ {A = ℕ} 0 1 = cc in omega arith)
culprit_in_range s (e ∷ es) r p h = go (s e.decision) h (culprit_in_range s es)
  where
    parts : Enters e es × (proper es ≡ true)
    parts = proper_parts e es p

    go : (b : Bool) → cond b (Some (record { culprit = e; left = e.decision ∷ []; stays = es })) (follow e (retreat s es)) ≡ Some r
        → ((q : Retreat) → proper es ≡ true → retreat s es ≡ Some q → InRange q.culprit) → InRange r.culprit
    go true k later = grind (arith, common_steps)
    go false k later = grind (arith, common_steps)

-- what a set of bits forgets is what the list of decisions does
forget_left : (t : Set) (ds : List ℕ) → t ≡ (λ (x : ℕ). in_list x ds) → AllByRecursion (λ (d : ℕ). d < 64) ds → (o : Option Exclusion) → unless_meets t o ≡ unless_left ds o
forget_left t ds e low None = refl
forget_left t ds e low (Some x) = ap (λ (b : Bool). cond b None (Some x)) (meets_any x.reason t ds e low)

module _ {C : Type 0} (a : Account C) (s : Set) (rests : Bool) where
  -- an account that a retreat leaves
  pub retreated : (es : List Entry) (c : Entry) (left : List ℕ) (gone rest : Set) (forgot ex : ℕ → ℕ → Option Exclusion) → retreat s a.trail ≡ Some (record { culprit = c; left = left; stays = es })
      → gone ≡ (λ (x : ℕ). in_list x left) → AllByRecursion (λ (d : ℕ). d < 64) left → rest ≡ (λ (x : ℕ). s x && not (eqb x c.decision))
      → forgot ≡ (λ d v. unless_meets gone (a.exclusions d v))
      → ex ≡ (λ x w. cond (eqb x c.decision && eqb w c.value) (Some (record { reason = rest; rests = rests })) (forgot x w))
      → record { book = a.book; ranks = a.ranks; trail = es; exclusions = ex; best = a.best; state = a.state } ≡ blame a s rests
  retreated es c left gone rest forgot ex h g low u f k = grind (arith, common_steps, forget_left)

-- the test that an account makes, by the best's cost alone
test_is : {C : Type 0} (m : Meaning C) (b : Book) (best : Option (Best C)) (d : ℕ) (p : Plan) → try_plan m b (cost_held best) d p ≡ test m b best d p
unfolding try_plan test
test_is m b None d p = refl
test_is m b (Some x) d p = refl

-- the smallest free value is one of the values
pub free_value : (ex : ℕ → Option Exclusion) (n v : ℕ) → smallest_free ex n ≡ Some v → (1 ≤ v) × (v ≤ n)
free_value ex zero v h = absurd (let z : ◌≡◌ {A = ℕ} 0 1 = cc in omega arith)
free_value ex (suc n) v h = go (smallest_free ex n) (is_free (ex (suc n))) h (free_value ex n)
  where
    go : (o : Option ℕ) (b : Bool) → option_or o (when b (suc n)) ≡ Some v → ((w : ℕ) → o ≡ Some w → (1 ≤ w) × (w ≤ n)) → (1 ≤ v) × (v ≤ suc n)
    go (Some w) b k later = let e : w ≡ v = cc in let q = later w refl in (omega arith, omega arith)
    go None true k later = let e : suc n ≡ v = cc in (omega arith, omega arith)
    go None false k later = absurd (let z : ◌≡◌ {A = ℕ} 0 1 = cc in omega arith)

module _ {C : Type 0} (m : Meaning C) (a : Account C) (d : ℕ) where
  size : ℕ
  size = size_at a.book.decisions d

  -- the values tested one after the other are the account's
  tested_is : tried_to m a.book (cost_held a.best) (chosen a.trail) a.exclusions d size ≡ tested m a d
  unfolding tried_to tested size
  tested_is = fun_ext (λ (x : ℕ). fun_ext (λ (v : ℕ). go (eqb x d && is_value (size_at a.book.decisions d) v) v (a.exclusions x v)))
    where
      go : (asked : Bool) (v : ℕ) (o : Option Exclusion) → or_tried o asked (try_plan m a.book (cost_held a.best) d (choose (chosen a.trail) d v)) ≡ tested_at m a d v asked o
      go asked v (Some e) = refl
      go false v None = refl
      go true v None = test_is m a.book a.best d (choose (chosen a.trail) d v)

  module _ (n : ℕ) (best : Option C) (p : Plan) (ex : ℕ → ℕ → Option Exclusion) (sized : n ≡ size_at a.book.decisions d) (cost : best ≡ cost_held a.best) (plan : p ≡ chosen a.trail)
      (tried : ex ≡ tried_to m a.book best p a.exclusions d n) where
    all_tested : ex ≡ tested m a d
    unfolding size
    all_tested = grind (arith, common_steps, tested_is)

    -- the picked decision enters
    pub entered : (v : ℕ) (s : Set) (es : List Entry) → s ≡ support a.book p d → Some v ≡ smallest_free (ex d) n → es ≡ (record { decision = d; value = v; support = s } ∷ a.trail)
        → record { book = a.book; ranks = a.ranks; trail = es; exclusions = ex; best = a.best; state = a.state } ≡ extend m a d
    unfolding extend
    entered v s es u h e = grind (arith, common_steps, all_tested)

    -- the step is a dead end
    pub stuck : (s r blamed : Set) (rests : Bool) → s ≡ support a.book p d → None ≡ smallest_free (ex d) n → r ≡ reasons (ex d) n → rests ≡ any_rests (ex d) n → blamed ≡ (λ (x : ℕ). r x || s x)
        → blame (record { book = a.book; ranks = a.ranks; trail = a.trail; exclusions = ex; best = a.best; state = a.state }) blamed rests ≡ extend m a d
    unfolding extend
    stuck s r blamed rests u h e f k = grind (arith, common_steps, all_tested)

  -- a complete trail
  pub concluded : (p : Plan) (b : Best C) (s : Set) → p ≡ chosen a.trail → b ≡ champion m a.best (record { plan = p; cost = cost m a.book.prices p }) → s ≡ price_reason m a.book b.cost p
      → blame (record { book = a.book; ranks = a.ranks; trail = a.trail; exclusions = a.exclusions; best = Some b; state = a.state }) s true ≡ conclude m a
  unfolding conclude
  concluded p b s e f g = grind (arith, common_steps)

module _ {C : Type 0} (m : Meaning C) (a : Account C) (p : Plan) (o : Option ℕ) (plan : p ≡ chosen a.trail) (picks : o ≡ pick a.ranks (waits a.book p) (length a.book.decisions)) where
  picked_now : o ≡ pick a.ranks (waits a.book (chosen a.trail)) (length a.book.decisions)
  picked_now = picks ∙ ap (λ (q : Plan). pick a.ranks (waits a.book q) (length a.book.decisions)) plan

  -- the step that follows the pick
  pub step_by : step_at m a o ≡ step m a
  unfolding step
  step_by = ap (step_at m a) picked_now

  -- a picked decision is known, and off the trail
  pub picked_idle : (d : ℕ) → o ≡ Some d → (d < length a.book.decisions) × (chosen a.trail d ≡ 0)
  picked_idle d h = grind (arith, common_steps, Picked, picked_now, picked)
