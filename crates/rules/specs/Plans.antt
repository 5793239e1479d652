-- Books, active decisions, lawful plans and their cost.
use Rattle.std.specs.Prelude.{◌≡◌, ℕ, zero, suc, ◌<◌, ◌≤◌, Bool, true, false, cond, not, ◌&&◌, ◌||◌, List, [], ◌∷◌, length, ◌==◌, nat_le, nat_lt, slice_index_or}
use Rattle.std.specs.Bool.{beq}
use Rattle.std.specs.List.{AllByRecursion, list_all, list_any}
use Rattle.measure.specs.Meaning.{Meaning}
use Rattle.rules.specs.Conditions.{Plan, met}
use Rattle.rules.specs.declared.decision.Decision.{Decision}
use Rattle.rules.specs.declared.row.Row.{Row}

-- a book: the decisions, and the rules of each kind in place order
pub record Book : Type 0 where
  pub decisions : List Decision
  pub forbids : List Row
  pub activates : List Row
  pub prices : List Row

-- no decision: what stands behind the last
abbrev pub absent : Decision
absent = record { size = 0; on = false }

-- how many values a decision has
abbrev pub size_at : List Decision → ℕ → ℕ
size_at ds d = (slice_index_or ds d absent).size

-- whether a decision is marked on
abbrev pub on_at : List Decision → ℕ → Bool
on_at ds d = (slice_index_or ds d absent).on

-- a set of decisions, by a test
abbrev pub Set : Type 0
Set = ℕ → Bool

-- a plan's choices for the decisions of a set
abbrev pub within : Set → Plan → Plan
within s p d = cond (s d) (p d) 0

-- a set is closed if it has each decision marked on, and the target of each activate rule that the plan's choices for the set meet
pub record Closed (b : Book) (p : Plan) (s : Set) : Type 0 where
  pub marked : (d : ℕ) → on_at b.decisions d ≡ true → s d ≡ true
  pub enabled : AllByRecursion (λ r. met (within s p) r ≡ true → s r.target ≡ true) b.activates

-- the active decisions are the least closed set: what every closed set has
abbrev pub Active : Book → Plan → ℕ → Type 0
Active b p d = (s : Set) → Closed b p s → s d ≡ true

-- a plan is lawful if it chooses exactly the active decisions, each in its range, and meets no forbid rule
pub record Lawful (b : Book) (p : Plan) : Type 0 where
  pub only_active : (d : ℕ) → 0 < p d → Active b p d
  pub all_active : (d : ℕ) → Active b p d → 0 < p d
  pub in_range : (d : ℕ) → p d ≤ size_at b.decisions d
  pub unforbidden : AllByRecursion (λ r. met p r ≡ false) b.forbids

-- the cost of a plan joins the costs of all price rules that it meets
abbrev pub cost : {C : Type 0} → Meaning C → List Row → Plan → C
cost m [] p = m.neutral
cost m (r ∷ rs) p = cond (met p r) (m.joins (m.reads r.price) (cost m rs p)) (cost m rs p)

-- whether some activate rule with this target is met by a plan
abbrev pub enables : List Row → Plan → ℕ → Bool
enables rs p d = list_any (λ r. d == r.target && met p r) rs

-- one round: a set, with the targets that its choices enable
abbrev pub grown : List Row → Plan → Set → Set
grown rs p s d = s d || enables rs (within s p) d

-- so many rounds
abbrev pub rounds : ℕ → List Row → Plan → Set → Set
rounds zero rs p s = s
rounds (suc n) rs p s = grown rs p (rounds n rs p s)

-- the active decisions, worked out: from those marked on, as many rounds as there are decisions
abbrev pub active : Book → Plan → Set
active b p = rounds (length b.decisions) b.activates p (on_at b.decisions)

-- whether all numbers below n pass a test
abbrev pub all_below : (ℕ → Bool) → ℕ → Bool
all_below t zero = true
all_below t (suc n) = t n && all_below t n

-- whether a plan meets none of these rows
abbrev pub meets_none : List Row → Plan → Bool
meets_none rs p = list_all (λ r. not (met p r)) rs

-- whether a plan chooses a decision just when it is active, and in its range
abbrev pub fits : Book → Plan → Set
fits b p d = beq (nat_lt 0 (p d)) (active b p d) && nat_le (p d) (size_at b.decisions d)

-- whether a plan is lawful, worked out
abbrev pub is_lawful : Book → Plan → Bool
is_lawful b p = all_below (fits b p) (length b.decisions) && meets_none b.forbids p
