-- What judge answers of decisions, rows and a plan.
use Rattle.std.specs.Prelude.{◌≡◌, ℕ, ◌<◌, ◌≤◌, Bool, true, false, not, ◌&&◌, ◌||◌, List, [], ◌∷◌, length, take, Some, None, Ok, Err, filter, Option, Result, nat_le, nat_lt, slice_index_or}
use Rattle.std.specs.Option.{option_or}
use Rattle.std.specs.List.{AllByRecursion, list_all}
use Rattle.measure.specs.Meaning.{Meaning}
use Rattle.rules.specs.Compose.{is_forbid, is_activate, is_price}
use Rattle.rules.specs.Conditions.{Plan, plan_of, met, condition}
use Rattle.rules.specs.Plans.{Book, Active, Lawful, cost, size_at}
use Rattle.rules.specs.Refusals.{when}
use Rattle.rules.specs.declared.decision.Decision.{Decision}
use Rattle.rules.specs.declared.literal.Literal.{Literal}
use Rattle.rules.specs.declared.refusal.Refusal.{Refusal}
use Rattle.rules.specs.declared.refusal.Refusal.TheVariants.{TooManyDecisions, SizeOutOfRange, UnknownDecision, UnknownValue, ShortPlan}
use Rattle.rules.specs.declared.row.Row.{Row}
use Rattle.rules.specs.declared.verdict.Breach.{Breach}
use Rattle.rules.specs.declared.verdict.Breach.TheVariants.{NotActive, NotChosen, OutOfRange, Forbidden}

-- a decision has 1 to 16 values
abbrev pub has_size : Decision → Bool
has_size d = nat_le 1 d.size && nat_le d.size 16

-- every decision has 1 to 16 values
abbrev pub sized : List Decision → Bool
sized ds = list_all has_size ds

-- why decisions are refused
abbrev pub open_refusal : List Decision → Option Refusal
open_refusal ds = option_or (when (nat_lt 64 (length ds)) TooManyDecisions) (when (not (sized ds)) SizeOutOfRange)

-- every pair's decision is one of the first n
abbrev pub known_decisions : ℕ → List Literal → Bool
known_decisions n ls = list_all (λ l. nat_lt l.decision n) ls

-- a pair's value is one of its decision's
abbrev pub known_value : List Decision → Literal → Bool
known_value ds l = nat_le 1 l.value && nat_le l.value (size_at ds l.decision)

-- every pair's value is one of its decision's
abbrev pub known_values : List Decision → List Literal → Bool
known_values ds ls = list_all (known_value ds) ls

-- why a row is refused beside these decisions: first the decisions of pairs and target, then the values
abbrev pub row_refusal : List Decision → Row → Option Refusal
row_refusal ds r =
    option_or (when (not (known_decisions (length ds) (condition r) && (not (is_activate r.kind) || nat_lt r.target (length ds)))) UnknownDecision)
    (when (not (known_values ds (condition r))) UnknownValue)

-- why rows are refused: for the first that is
abbrev pub rows_refusal : List Decision → List Row → Option Refusal
rows_refusal ds [] = None
rows_refusal ds (r ∷ rs) = option_or (row_refusal ds r) (rows_refusal ds rs)

-- why judging is refused, in the order of its checks
abbrev pub judge_refusal : List Decision → List Row → List ℕ → Option Refusal
judge_refusal ds rs bytes = option_or (open_refusal ds) (option_or (rows_refusal ds rs) (when (nat_lt (length bytes) (length ds)) ShortPlan))

-- decisions and rows as a book: the rows of each kind, in their order
abbrev pub book_of : List Decision → List Row → Book
book_of ds rs =
    record {
      decisions = ds;
      forbids = filter (λ r. is_forbid r.kind) rs;
      activates = filter (λ r. is_activate r.kind) rs;
      prices = filter (λ r. is_price r.kind) rs;
    }

-- a plan treats a decision lawfully: chosen just when active, and in range
pub record Fits (b : Book) (p : Plan) (d : ℕ) : Type 0 where
  pub only_active : 0 < p d → Active b p d
  pub all_active : Active b p d → 0 < p d
  pub in_range : p d ≤ size_at b.decisions d

-- the decisions before d are treated lawfully
abbrev pub FitsBelow : Book → Plan → ℕ → Type 0
FitsBelow b p d = (e : ℕ) → e < d → Fits b p e

-- the first met of these rows stands at place k
abbrev pub FirstMet : List Row → Plan → ℕ → Type 0
FirstMet rs p k = (k < length rs) × AllByRecursion (λ r. met p r ≡ false) (take k rs) × ((r : Row) → met p (slice_index_or rs k r) ≡ true)

-- what a breach says: which is the first decision, else the first forbid rule, at fault
abbrev pub Breaks : Book → Plan → Breach → Type 0
Breaks b p (NotActive d) = FitsBelow b p d × (0 < p d) × (Active b p d → ⊥)
Breaks b p (NotChosen d) = FitsBelow b p d × (p d ≡ 0) × Active b p d
Breaks b p (OutOfRange d) = FitsBelow b p d × Active b p d × (size_at b.decisions d < p d)
Breaks b p (Forbidden k) = FitsBelow b p (length b.decisions) × FirstMet b.forbids p k

-- what a verdict says: the plan is lawful at its cost, or breaks a law
abbrev pub Judged : {C : Type 0} → Meaning C → Book → Plan → Result C Breach → Type 0
Judged m b p (Ok c) = Lawful b p × (c ≡ cost m b.prices p)
Judged m b p (Err x) = Breaks b p x

-- the whole answer: a refusal just on its ground, else a verdict that holds
abbrev pub Answered : {C : Type 0} → Meaning C → List Decision → List Row → List ℕ → Result (Result C Breach) Refusal → Type 0
Answered m ds rs bytes (Ok v) = (judge_refusal ds rs bytes ≡ None) × Judged m (book_of ds rs) (plan_of (length ds) bytes) v
Answered m ds rs bytes (Err e) = judge_refusal ds rs bytes ≡ Some e
