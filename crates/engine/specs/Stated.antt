-- What a book of bytes states: decisions, and rows whose parts make rules.
use Rattle.std.specs.Prelude.{ℕ, zero, suc, ◌+◌, ◌*◌, ◌/◌, ◌%◌, Bool, true, false, ◌&&◌, List, [], ◌∷◌, map, length, drop, Some, None, Option, ◌==◌, nat_le, slice_index}
use Rattle.std.specs.Option.{option_and_then, option_map}
use Rattle.std.specs.Simd.{first_chunks}
use Rattle.measure.specs.declared.price.Price.{Price}
use Rattle.rules.specs.Refusals.{when}
use Rattle.rules.specs.declared.decision.Decision.{Decision}
use Rattle.rules.specs.declared.literal.Literal.{Literal}
use Rattle.rules.specs.declared.row.Kind.{Kind}
use Rattle.rules.specs.declared.row.Kind.TheVariants.{Forbid, Activate, Price as Priced}
use Rattle.rules.specs.declared.row.Row.{Row}

-- the mark that a byte states, on or off; none above 1
abbrev pub mark_in : ℕ → Option Bool
mark_in zero = Some false
mark_in (suc zero) = Some true
mark_in (suc (suc n)) = None

-- the decision that two bytes state, its size and its mark
abbrev pub decision_in : List ℕ → Option Decision
decision_in pair = option_map (λ on. record { size = slice_index pair 0; on = on }) (mark_in (slice_index pair 1))

-- the decisions that bytes state, two for each; none if one of them states none
abbrev pub decisions_in : List (List ℕ) → Option (List Decision)
decisions_in [] = Some []
decisions_in (p ∷ ps) = option_and_then (λ d. option_map (λ ds. d ∷ ds) (decisions_in ps)) (decision_in p)

-- the kind of rule that a byte states; none above 2
abbrev pub kind_in : ℕ → Option Kind
kind_in zero = Some Forbid
kind_in (suc zero) = Some Activate
kind_in (suc (suc zero)) = Some Priced
kind_in (suc (suc (suc n))) = None

-- the four pairs of a record, the decision and the value of each
abbrev pub pairs_in : List ℕ → List Literal
pairs_in bytes = map (λ k. record { decision = slice_index bytes k; value = slice_index bytes (k + 1) }) (2 ∷ 4 ∷ 6 ∷ 8 ∷ [])

-- the price of a record: its tier, which no cost in cents shows, and its cents in four bytes, the lowest first
abbrev pub price_in : List ℕ → Price
price_in bytes = record { tier = slice_index bytes 11; cents = slice_index bytes 12 + 256 * (slice_index bytes 13 + 256 * (slice_index bytes 14 + 256 * slice_index bytes 15)) }

-- the row that a record of 16 bytes states: kind, number of pairs, pairs, target and price; none if it is of no kind or of more than four pairs
abbrev pub row_in : List ℕ → Option Row
row_in bytes =
    option_and_then
    (λ kind. when (nat_le (slice_index bytes 1) 4) (record { kind = kind; count = slice_index bytes 1; pairs = pairs_in bytes; target = slice_index bytes 10; price = price_in bytes }))
    (kind_in (slice_index bytes 0))

-- the layout of a book: two bytes for each decision, and 16 for each rule
pub record Layout : Type 0 where
  pub decisions : List (List ℕ)
  pub records : List (List ℕ)

-- the layout of bytes, the number of decisions first; none if they are too few for those, or do not end with a record
abbrev pub layout_in : List ℕ → Option Layout
layout_in [] = None
layout_in (n ∷ bytes) =
    let rules = drop (2 * n) bytes in
    when (nat_le (2 * n) (length bytes) && length rules % 16 == 0) (record { decisions = first_chunks 2 n bytes; records = first_chunks 16 (length rules / 16) rules })
