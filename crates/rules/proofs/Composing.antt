-- Parts that compose accepts make a row of the shape that every rule has.
use Rattle.std.proofs.lemmas.Grind.{common_steps}
use Rattle.std.proofs.Common.{◌≡◌, ℕ, zero, suc, ◌-◌, ◌≤◌, true, false, ◌&&◌, ltb, List, ◌++◌, length, drop, replicate, None, refl, ap, ◌∙◌, arith, length-append}
use lib.ListN.{length-replicate}
use lib.Seq.{take-append-le, take-length, drop-append_seam}
use Rattle.std.proofs.lemmas.Bool.{le-leb, ltb-false}
use Rattle.measure.specs.declared.price.Price.{Price}
use Rattle.rules.specs.Compose.{ascends, compose_refusal, composed, blank, blanks, is_exact, is_price}
use Rattle.rules.specs.Conditions.{condition}
use Rattle.rules.specs.declared.literal.Literal.{Literal}
use Rattle.rules.specs.declared.row.Kind.{Kind}
use Rattle.rules.specs.declared.row.Kind.TheVariants.{Forbid, Activate, Price as Priced}
use Rattle.rules.specs.declared.row.Row.{Row}

-- the pairs of accepted parts are one to four, and ascend; the cents of a price rule are in range
pub accepted_parts : (k : Kind) (ps : List Literal) (price : Price) → compose_refusal k ps price ≡ None
    → (1 ≤ length ps) × (length ps ≤ 4) × (ascends ps ≡ true) × ((is_price k && ltb 1000000000 price.cents) ≡ false)
accepted_parts k ps price h = grind (arith, common_steps)

-- the condition of the row is the pairs
pub composed_condition : (k : Kind) (ps : List Literal) (t : ℕ) (price : Price) → condition (composed k ps t price) ≡ ps
composed_condition k ps t price = take-append-le (length ps) ps (replicate (4 - length ps) blank) (omega arith) ∙ take-length ps

composed_full : (k : Kind) (ps : List Literal) (t : ℕ) (price : Price) → length ps ≤ 4 → length (composed k ps t price).pairs ≡ 4
composed_full k ps t price h = length-append ps (replicate (4 - length ps) blank) ∙ omega (arith, length-replicate (4 - length ps) blank)

blank_copies : (n : ℕ) → blanks (replicate n blank) ≡ true
blank_copies zero = refl
blank_copies (suc n) = blank_copies n

-- nothing stands behind the pairs of the row
composed_blank : (ps : List Literal) → blanks (drop (length ps) (ps ++ replicate (4 - length ps) blank)) ≡ true
composed_blank ps = ap blanks (drop-append_seam ps (replicate (4 - length ps) blank)) ∙ blank_copies (4 - length ps)

-- what the row has beside its pairs is what its kind has
composed_exact : (k : Kind) (ps : List Literal) (t : ℕ) (price : Price) → t ≤ 255 → price.tier ≤ 255 → (is_price k && ltb 1000000000 price.cents) ≡ false → is_exact (composed k ps t price) ≡ true
composed_exact Forbid ps t price low tier cents = composed_blank ps
composed_exact Activate ps t price low tier cents = rw (le-leb t 255 low) (composed_blank ps)
composed_exact Priced ps t price low tier cents =
    rw (le-leb price.tier 255 tier, le-leb price.cents 1000000000 (ltb-false 1000000000 price.cents cents)) (composed_blank ps)

-- a row made of accepted parts has the shape of a rule
pub accepted_shape : (r : Row) (k : Kind) (ps : List Literal) (t : ℕ) (price : Price) → r ≡ composed k ps t price → t ≤ 255 → price.tier ≤ 255 → compose_refusal k ps price ≡ None
    → (1 ≤ r.count) × (r.count ≤ 4) × (length r.pairs ≡ 4) × (ascends (condition r) ≡ true) × (is_exact r ≡ true)
accepted_shape r k ps t price e low tier h = grind (arith, common_steps, accepted_parts, composed_full, composed_condition, composed_exact)
