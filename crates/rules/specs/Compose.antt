-- The shape of a rule, and what compose makes of its arguments.
use Rattle.std.specs.Prelude.{ℕ, ◌+◌, ◌-◌, Bool, true, false, cond, not, ◌&&◌, ◌||◌, List, [], ◌∷◌, ◌++◌, length, drop, replicate, Option, ◌==◌, nat_le, nat_lt}
use Rattle.std.specs.Option.{option_or}
use Rattle.std.specs.List.{list_all}
use Rattle.measure.specs.declared.price.Price.{Price}
use Rattle.rules.specs.Refusals.{when}
use Rattle.rules.specs.declared.literal.Literal.{Literal}
use Rattle.rules.specs.declared.refusal.Refusal.{Refusal}
use Rattle.rules.specs.declared.refusal.Refusal.TheVariants.{PairCount, NotAscending, CentsTooLarge}
use Rattle.rules.specs.declared.row.Kind.{Kind}
use Rattle.rules.specs.declared.row.Kind.TheVariants.{Forbid, Activate, Price as Priced}
use Rattle.rules.specs.declared.row.Row.{Row}

-- every pair's decision is at least n, and above the one before
abbrev pub ascends_from : ℕ → List Literal → Bool
ascends_from n [] = true
ascends_from n (l ∷ ls) = nat_le n l.decision && ascends_from (l.decision + 1) ls

-- the decisions of the pairs strictly ascend
abbrev pub ascends : List Literal → Bool
ascends ls = ascends_from 0 ls

abbrev pub is_forbid : Kind → Bool
is_forbid Forbid = true
is_forbid Activate = false
is_forbid Priced = false

abbrev pub is_activate : Kind → Bool
is_activate Forbid = false
is_activate Activate = true
is_activate Priced = false

abbrev pub is_price : Kind → Bool
is_price Forbid = false
is_price Activate = false
is_price Priced = true

-- why compose refuses, in the order of its checks
abbrev pub compose_refusal : Kind → List Literal → Price → Option Refusal
compose_refusal k ps price =
    option_or (when (not (nat_le 1 (length ps) && nat_le (length ps) 4)) PairCount)
    (option_or (when (not (ascends ps)) NotAscending) (when (is_price k && nat_lt 1000000000 price.cents) CentsTooLarge))

-- no pair: what stands behind a rule's pairs
abbrev pub blank : Literal
blank = record { decision = 0; value = 0 }

abbrev pub free : Price
free = record { tier = 0; cents = 0 }

-- the row of these pairs; a target or a price that the kind lacks is 0
abbrev pub composed : Kind → List Literal → ℕ → Price → Row
composed k ps target price =
    record {
      kind = k;
      count = length ps;
      pairs = ps ++ replicate (4 - length ps) blank;
      target = cond (is_activate k) target 0;
      price = cond (is_price k) price free;
    }

-- the rule that a new place holds: forbid 0=1
abbrev pub new_rule : Row
new_rule = composed Forbid (record { decision = 0; value = 1 } ∷ []) 0 free

-- a price that a rule may state
abbrev pub in_range : Price → Bool
in_range p = nat_le p.tier 255 && nat_le p.cents 1000000000

-- no price
abbrev pub is_free : Price → Bool
is_free p = p.tier == 0 && p.cents == 0

-- every one of these places is blank
abbrev pub blanks : List Literal → Bool
blanks ls = list_all (λ l. l.decision == 0 && l.value == 0) ls

-- a row states a target and a price in range, those only that its kind has, and nothing behind its pairs
abbrev pub is_exact : Row → Bool
is_exact r =
    nat_le r.target 255 && in_range r.price && (is_activate r.kind || r.target == 0) && (is_price r.kind || is_free r.price) && blanks (drop r.count r.pairs)
