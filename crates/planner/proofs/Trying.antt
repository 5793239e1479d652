-- The tests of a decision's values, as code makes them.
use Rattle.std.proofs.lemmas.Grind.{common_steps}
use Rattle.std.proofs.Common.{◌≡◌, ℕ, ◌+◌, ◌-◌, ◌<◌, ◌≤◌, Bool, true, false, cond, not, ◌&&◌, eqb, List, [], ◌∷◌, length, get_or, set, Some, None, Option, ap, ◌∙◌, ap₂, arith, get_or-set_other}
use Rattle.std.specs.Option.{option_or}
use Rattle.account.specs.Accounts.{Exclusion}
use Rattle.account.specs.Steps.{by_forbid, choose, first_met, kept, named_in, reaches}
use Rattle.measure.specs.Meaning.{Meaning}
use Rattle.rules.specs.Conditions.{Plan, condition, from_bytes, met, names}
use Rattle.rules.specs.Judging.{known_decisions}
use Rattle.rules.specs.Plans.{Book, Set, cost}
use Rattle.rules.specs.declared.row.Row.{Row}
use Rattle.scans.specs.Known.{Known}
use Rattle.planner.specs.Trials.{by_cost, or_tried, tried_to, try_plan}

-- the first met row names known decisions
pub first_known : (rs : List Row) (p : Plan) (r : Row) → Known rs → Some r ≡ first_met rs p → known_decisions 64 (condition r) ≡ true
first_known [] p r known h = absurd (let z : ◌≡◌ {A = ℕ} 0 1 = cc in omega arith)
first_known (x ∷ rs) p r known h = go (met p x) h (first_known rs p r known.1)
  where
    go : (b : Bool) → Some r ≡ cond b (Some x) (first_met rs p) → (Some r ≡ first_met rs p → known_decisions 64 (condition r) ≡ true) → known_decisions 64 (condition r) ≡ true
    go true k later = let e : r ≡ x = cc in rw e known.0
    go false k later = later k

module _ {C : Type 0} (m : Meaning C) (b : Book) (d : ℕ) (p : Plan) where
  -- the cost is reached
  pub cost_hit : (best c : C) (rs : List Row) (reason s : Set) → rs ≡ b.prices → c ≡ cost m rs p → true ≡ reaches m best c → reason ≡ named_in (kept m best m.neutral rs p)
      → s ≡ (λ (x : ℕ). reason x && not (eqb x d)) → Some (record { reason = s; rests = true }) ≡ by_cost m b d p (Some best)
  cost_hit best c rs reason s r e h k u = grind (arith, common_steps)

  -- a forbid rule is met
  pub forbid_hit : (best : Option C) (rs : List Row) (r : Row) (row s : Set) → rs ≡ b.forbids → Some r ≡ first_met rs p → row ≡ names (condition r) → s ≡ (λ (x : ℕ). row x && not (eqb x d))
      → Some (record { reason = s; rests = false }) ≡ try_plan m b best d p
  unfolding try_plan
  forbid_hit best rs r row s same h n u = grind (arith, common_steps)

  -- none is met, so the cost decides
  pub forbid_miss : (best : Option C) (rs : List Row) → rs ≡ b.forbids → None ≡ first_met rs p → by_cost m b d p best ≡ try_plan m b best d p
  unfolding try_plan
  forbid_miss best rs same h = ap (λ (o : Option Row). option_or (by_forbid d o) (by_cost m b d p best)) (h ∙ ap (λ (xs : List Row). first_met xs p) same)

-- values up to n, and one more
module _ {C : Type 0} (m : Meaning C) (b : Book) (best : Option C) (p : Plan) (ex : ℕ → ℕ → Option Exclusion) (d : ℕ) where
  -- no value is tested yet
  pub tried_none : ex ≡ tried_to m b best p ex d 0
  unfolding tried_to
  tried_none = grind (arith, common_steps)

  -- one value more
  tried_more : (n : ℕ) → ◌≡◌ {A = ℕ → ℕ → Option Exclusion} (λ x w. or_tried (tried_to m b best p ex d n x w) (eqb x d && eqb w (n + 1)) (try_plan m b best d (choose p d (n + 1)))) (tried_to m b best p ex d (n + 1))
  unfolding tried_to
  tried_more n = grind (arith, common_steps)

  -- the value v more, in a plan with it in
  pub tried_at : (v : ℕ) (q : Plan) (before after : ℕ → ℕ → Option Exclusion) → 1 ≤ v → q ≡ choose p d v → before ≡ tried_to m b best p ex d (v - 1)
      → after ≡ (λ x w. or_tried (before x w) (eqb x d && eqb w v) (try_plan m b best d q)) → after ≡ tried_to m b best p ex d (v + 1 - 1)
  tried_at v q before after low e f h =
      let back : v ≡ v - 1 + 1 = omega arith in
      let same : v - 1 + 1 ≡ v + 1 - 1 = omega arith in
      let read : (ℕ → ℕ → Option Exclusion) → Plan → ℕ → ℕ → Option Exclusion = λ old r x w. or_tried (old x w) (eqb x d && eqb w v) (try_plan m b best d r) in
      let shift : ℕ → ℕ → ℕ → Option Exclusion = λ k x w. or_tried (tried_to m b best p ex d (v - 1) x w) (eqb x d && eqb w k) (try_plan m b best d (choose p d k)) in
      h ∙ ap₂ read f e ∙ ap shift back
      ∙ tried_more (v - 1) ∙ ap (tried_to m b best p ex d) same

-- bytes that are a plan's but for one decision
abbrev pub But : List ℕ → List ℕ → ℕ → Type 0
But trial plan d = (x : ℕ) → (x ≡ d → ⊥) → get_or trial x 0 ≡ get_or plan x 0

-- with a value put in, they are the plan with that choice
pub but_choose : (trial plan : List ℕ) (d v : ℕ) → d < length trial → But trial plan d → from_bytes (set trial d v) ≡ choose (from_bytes plan) d v
but_choose trial plan d v l same = grind (arith, common_steps)

pub but_set : (trial plan : List ℕ) (d v : ℕ) → But trial plan d → But (set trial d v) plan d
but_set trial plan d v same x ne = get_or-set_other trial d x v 0 ne ∙ same x ne
