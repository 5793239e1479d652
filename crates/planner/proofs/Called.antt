-- The account after a call that leaves the rules alone.
use Rattle.std.proofs.lemmas.Grind.{common_steps}
use Rattle.std.proofs.Common.{◌≡◌, ℕ, zero, suc, ◌+◌, ◌-◌, ◌<◌, ◌≤◌, Bool, true, false, cond, eqb, ltb, leb, List, ◌++◌, map, length, take, drop, set, Some, None, Option, sym, refl, ap, ◌∙◌, ap₂, add-zero, add-suc, arith, length-take, get_or-take}
use Rattle.std.specs.Option.{option_or}
use Rattle.std.proofs.lemmas.List.FromFn.{fill_by_all}
use Rattle.std.proofs.lemmas.Bool.{lt-leb, le-ltb}
use Rattle.std.specs.List.{range_with_len}
use Rattle.account.specs.Accounts.{Account, Best}
use Rattle.account.specs.Calls.{Call, accepted, add, after, after_if, answer, answer_if, best, done, leaves, made, ran, refusal, refused, reported, run, withdraw, written}
use Rattle.account.specs.Steps.{advance, advance_in, one_if_open, step}
use Rattle.account.specs.declared.state.State.{State}
use Rattle.account.specs.declared.state.State.TheVariants.{Open, Settled}
use Rattle.measure.specs.Meaning.{Meaning}
use Rattle.rules.specs.Conditions.{from_bytes}
use Rattle.rules.specs.Judging.{row_refusal}
use Rattle.rules.specs.Refusals.{when}
use Rattle.rules.specs.declared.decision.Decision.{Decision}
use Rattle.rules.specs.declared.refusal.Refusal.{Refusal}
use Rattle.rules.specs.declared.refusal.Refusal.TheVariants.{ShortPlan, TableFull}
use Rattle.rules.specs.declared.row.Kind.{Kind}
use Rattle.rules.specs.declared.row.Row.{Row}
use Rattle.rules.specs.declared.rule.Rule.{Rule}
use Rattle.account.specs.Changes.{added, held, withdrawn}
use Rattle.planner.specs.Planners.{is_open}

-- accounts whose parts are the same
pub parts_same : {C : Type 0} (a b : Account C) → a.book ≡ b.book → a.ranks ≡ b.ranks → a.trail ≡ b.trail → a.exclusions ≡ b.exclusions → a.best ≡ b.best → a.state ≡ b.state → a ≡ b
parts_same a b p q r s t u = λ i. record { book = p i; ranks = q i; trail = r i; exclusions = s i; best = t i; state = u i }

-- a call that no ground refuses
pub accepts : {C : Type 0} (m : Meaning C) (a : Account C) (c : Call) → refusal a c ≡ None → (accepted m a c ≡ answer m a c) × (leaves m a c ≡ after m a c)
accepts m a c h = (ap (answer_if m a c) (sym h), ap (after_if m a c) (sym h))

-- a known decision is no ground
pub known_decision : (n d : ℕ) (e : Refusal) → d < n → when (leb n d) e ≡ None
known_decision n d e l = ap (λ (b : Bool). when b e) (lt-leb n d l)

pub long_buffer : (n k : ℕ) → n ≤ k → when (ltb k n) ShortPlan ≡ None
long_buffer n k l = ap (λ (b : Bool). when b ShortPlan) (le-ltb k n l)

-- a rank that is set
pub rank_set : (ranks : List ℕ) (d n : ℕ) → d < length ranks → from_bytes (set ranks d n) ≡ (λ (x : ℕ). cond (eqb x d) n (from_bytes ranks x))
rank_set ranks d n l = grind (arith, common_steps)

-- the front of a plan's bytes
front_of : (plan : List ℕ) (n : ℕ) → n ≤ length plan → take n plan ≡ map (from_bytes plan) (range_with_len 0 n)
front_of plan n l = fill_by_all (from_bytes plan) (take n plan) n 0 (omega (arith, length-take n plan)) (λ k h. get_or-take n plan k 0 h)

-- a plan that is written in front of a buffer
pub written_plan : (plan buffer front : List ℕ) (n : ℕ) → n ≤ length plan → front ≡ take (n - 0) plan → front ++ drop (n - 0) buffer ≡ written n (from_bytes plan) buffer
written_plan plan buffer front n l e = grind (arith, common_steps, front_of)

-- a held best is reported
pub best_reported : {C : Type 0} (m : Meaning C) (a : Account C) (n : ℕ) (plan buffer front : List ℕ) (b : Best C) → n ≡ length a.book.decisions → n ≤ length plan → n ≤ length buffer
    → a.best ≡ Some b → b.plan ≡ from_bytes plan → front ≡ take (n - 0) plan → reported a.state (Some b.cost) (front ++ drop (n - 0) buffer) ≡ answer m a (best buffer)
best_reported m a n plan buffer front b e l room held p f = grind (arith, common_steps, written_plan, accepts, long_buffer)

module _ {C : Type 0} (m : Meaning C) (a : Account C) where
  settled_next : (b : Account C) → b.state ≡ Settled → advance_in m b b.state ≡ b
  settled_next b h = ap (advance_in m b) h

  -- a settled planner makes no more steps
  pub settled_stays : (k j : ℕ) → (advance m k a).state ≡ Settled → (advance m (k + j) a ≡ advance m k a) × (made m (k + j) a ≡ made m k a)
  settled_stays k zero h = (ap (λ (n : ℕ). advance m n a) (add-zero k), ap (λ (n : ℕ). made m n a) (add-zero k))
  settled_stays k (suc j) h =
      let (same, count) = settled_stays k j h in
      let over = ap (λ (b : Account C). b.state) same ∙ h in (
        ap (λ (n : ℕ). advance m n a) (add-suc k j) ∙ settled_next (advance m (k + j) a) over ∙ same,
        ap (λ (n : ℕ). made m n a) (add-suc k j) ∙ ap (λ (s : State). made m (k + j) a + one_if_open s) over ∙ add-zero (made m (k + j) a) ∙ count,
      )

  -- an open planner makes one more
  pub open_more : (k : ℕ) (b : Account C) → b ≡ advance m k a → is_open b.state ≡ true → k ≡ made m k a → (step m b ≡ advance m (k + 1) a) × (k + 1 ≡ made m (k + 1) a)
  open_more k b e o count = grind (arith, common_steps)

  -- where it is not open, the budget does not matter
  pub not_open : (k n : ℕ) (b : Account C) → b ≡ advance m k a → is_open b.state ≡ false → k ≤ n → (b ≡ advance m n a) × (made m k a ≡ made m n a)
  not_open k n b e o l =
      let over = ap (λ (x : Account C). x.state) (sym e) ∙ is_settled b.state o in
      let (same, count) = settled_stays k (n - k) over in
      let whole : k + (n - k) ≡ n = omega arith in
      (e ∙ sym same ∙ ap (λ (j : ℕ). advance m j a) whole, sym count ∙ ap (λ (j : ℕ). made m j a) whole)
    where
      is_settled : (s : State) → is_open s ≡ false → s ≡ Settled
      is_settled Open h = cc
      is_settled Settled h = refl

  -- the whole run, once it stops
  pub ran_whole : (budget k : ℕ) (b : Account C) → budget ≤ 1000000 → (b ≡ advance m budget a) × (k ≡ made m budget a) → (ran k b.state ≡ answer m a (run budget)) × (b ≡ after m a (run budget))
  ran_whole budget k b low (e, count) = grind (arith, common_steps)

  -- a call that a ground refuses
  pub refuses : (c : Call) (e : Refusal) → refusal a c ≡ Some e → (refused e ≡ answer m a c) × (a ≡ after m a c)
  refuses c e h = (ap (answer_if m a c) (sym h), ap (after_if m a c) (sym h))

  module _ (rule : Rule) (row : Row) (ds : List Decision) (rows : List Row) (same : row ≡ rule.row) (book : ds ≡ a.book.decisions) (table : rows ≡ held a.book row.kind) where
    grounds : refusal a (add rule) ≡ option_or (row_refusal ds row) (when (leb 256 (length rows)) TableFull)
    grounds = grind (arith, common_steps)

    -- no ground holds against a rule
    pub rule_accepted : row_refusal ds row ≡ None → length rows < 256 → refusal a (add rule) ≡ None
    rule_accepted h l = grounds ∙ ap₂ (λ (o : Option Refusal) (b : Bool). option_or o (when b TableFull)) h (lt-leb 256 (length rows) l)

    -- a rule that does not fit the decisions
    pub rule_refused : (e : Refusal) → row_refusal ds row ≡ Some e → refusal a (add rule) ≡ Some e
    rule_refused e h = grounds ∙ ap (λ (o : Option Refusal). option_or o (when (leb 256 (length rows)) TableFull)) h

    -- what an accepted rule leaves
    pub rule_left : (x : Account C) → row_refusal ds row ≡ None → length rows < 256 → x ≡ added m a row.kind row → (done ≡ answer m a (add rule)) × (x ≡ after m a (add rule))
    rule_left x h l e = grind (arith, common_steps)

  -- what a rule's going leaves
  pub place_left : (k : Kind) (n : ℕ) (x : Account C) → n < length (held a.book k) → x ≡ withdrawn m a k n → (done ≡ answer m a (withdraw k n)) × (x ≡ after m a (withdraw k n))
  place_left k n x l e = grind (arith, common_steps)
