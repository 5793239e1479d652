-- A rule is what compose makes of the rule's own parts, which compose accepts.
use Rattle.std.proofs.lemmas.Grind.{common_steps}
use Rattle.std.proofs.Common.{◌≡◌, ℕ, ◌-◌, ◌≤◌, Bool, true, false, cond, ◌&&◌, ◌||◌, eqb, leb, List, [], ◌∷◌, ◌++◌, length, take, drop, replicate, None, sym, refl, ap, ◌∙◌, arith, length-drop, take-append-drop, length-take}
use Rattle.std.proofs.lemmas.Bool.{and_parts}
use Rattle.measure.specs.declared.price.Price.{Price}
use Rattle.rules.specs.Compose.{compose_refusal, composed, blank, blanks, free, in_range, is_activate, is_price, is_free, is_exact}
use Rattle.rules.specs.Conditions.{condition}
use Rattle.rules.specs.declared.literal.Literal.{Literal}
use Rattle.rules.specs.declared.row.Kind.{Kind}
use Rattle.rules.specs.declared.row.Row.{Row}
use Rattle.rules.specs.declared.rule.Rule.{Rule}

-- what is 0 or free unless its kind has it is what compose leaves of it
kept : {X : Type 0} (b t : Bool) (x y : X) → (t ≡ true → x ≡ y) → (b || t) ≡ true → x ≡ cond b x y
kept true t x y same h = refl
kept false t x y same h = same h

pub free_price : (p : Price) → is_free p ≡ true → p ≡ free
free_price p h = grind (arith, common_steps)

blank_place : (l : Literal) → (eqb l.decision 0 && eqb l.value 0) ≡ true → l ≡ blank
blank_place l h = grind (arith, common_steps)

blank_places : (ls : List Literal) → blanks ls ≡ true → ls ≡ replicate (length ls) blank
blank_places [] h = refl
blank_places (l ∷ ls) h =
    let (here, later) = and_parts (eqb l.decision 0 && eqb l.value 0) (blanks ls) h in
    let first = blank_place l here in
    let rest = blank_places ls later in
    cc

-- pairs behind which nothing stands, filled up again
refilled : (n : ℕ) (ps : List Literal) → n ≤ 4 → length ps ≡ 4 → blanks (drop n ps) ≡ true → ps ≡ take n ps ++ replicate (4 - length (take n ps)) blank
refilled n ps few full h =
    let room : length (drop n ps) ≡ 4 - length (take n ps) = omega (arith, length-drop n ps, length-take n ps) in
    sym (take-append-drop n ps)
    ∙ ap (λ (rest : List Literal). take n ps ++ rest) (blank_places (drop n ps) h ∙ ap (λ (m : ℕ). replicate m blank) room)

-- what an exact row keeps: a target and a price in range, those only that its kind has, and nothing behind its pairs
pub exact_parts : (r : Row) → is_exact r ≡ true
    → (leb r.target 255 ≡ true) × (in_range r.price ≡ true) × ((is_activate r.kind || eqb r.target 0) ≡ true) × ((is_price r.kind || is_free r.price) ≡ true) × (blanks (drop r.count r.pairs) ≡ true)
exact_parts r h = grind (arith, common_steps)

condition_length : (r : Row) → r.count ≤ 4 → length r.pairs ≡ 4 → r.count ≡ length (condition r)
condition_length r few full = omega (arith, length-take r.count r.pairs)

same_rows : (k : Kind) (c d : ℕ) (ps qs : List Literal) (t u : ℕ) (p q : Price) → c ≡ d → ps ≡ qs → t ≡ u → p ≡ q
    → ◌≡◌ {A = Row} (record { kind = k; count = c; pairs = ps; target = t; price = p }) (record { kind = k; count = d; pairs = qs; target = u; price = q })
same_rows k c d ps qs t u p q count pairs target price = cc

pub rule_composed : (r : Rule) → r.row ≡ composed r.row.kind (condition r.row) r.row.target r.row.price
rule_composed r = grind (arith, common_steps, exact_parts, condition_length, refilled, kept, free_price, same_rows)

pub rule_accepted : (r : Rule) → compose_refusal r.row.kind (condition r.row) r.row.price ≡ None
rule_accepted r = grind (arith, common_steps)
