-- Rules, and what their lines state.
use Rattle.std.proofs.lemmas.Grind.{common_steps}
use Rattle.std.proofs.Common.{◌≡◌, ℕ, ◌≤◌, true, ◌&&◌, leb, List, [], ◌∷◌, map, length, None, sym, refl, ap, arith}
use Rattle.std.specs.List.{AllByRecursion}
use Rattle.std.proofs.lemmas.Bool.{and_parts}
use Rattle.measure.specs.declared.price.Price.{Price}
use Rattle.rules.specs.Compose.{compose_refusal, composed, free, is_exact}
use Rattle.rules.specs.Conditions.{condition}
use Rattle.rules.specs.declared.literal.Literal.{Literal}
use Rattle.rules.specs.declared.row.Kind.{Kind}
use Rattle.rules.specs.declared.row.Kind.TheVariants.{Forbid, Activate, Price as Priced}
use Rattle.rules.specs.declared.row.Row.{Row}
use Rattle.rules.specs.declared.rule.Rule.{Rule}
use Rattle.rules.proofs.Composing.{accepted_shape, composed_condition}
use Rattle.rendering.specs.Texts.{parts_line, rule_line}
use Rattle.statements.specs.Statements.{Stated, rules}
use Rattle.grammar.specs.Grammar.{fitting, fitting_head, fitting_pairs}
use Rattle.book.specs.Laws.{BytePaired}

-- the lines of rules
abbrev pub rule_lines : List Rule → List (List ℕ)
rule_lines rs = map rule_line (map (λ (r : Rule). r.row) rs)

-- the line of parts is that of the row made of them
pub composed_line : (k : Kind) (ps : List Literal) (t : ℕ) (price : Price) → parts_line k ps t price ≡ rule_line (composed k ps t price)
unfolding parts_line
composed_line Forbid ps t price = ap (λ (qs : List Literal). parts_line Forbid qs 0 free) (sym (composed_condition Forbid ps t price))
composed_line Activate ps t price = ap (λ (qs : List Literal). parts_line Activate qs t free) (sym (composed_condition Activate ps t price))
composed_line Priced ps t price = ap (λ (qs : List Literal). parts_line Priced qs 0 price) (sym (composed_condition Priced ps t price))

-- a target and a price that fit are bytes
head_bytes : (k : Kind) (t : ℕ) (price : Price) → fitting_head k t price ≡ true → (t ≤ 255) × (price.tier ≤ 255)
head_bytes Forbid t price h = grind (arith, common_steps)
head_bytes Activate t price h = grind (arith, common_steps)
head_bytes Priced t price h = grind (arith, common_steps)

-- parts that fit, and that compose accepts, make a rule
pub rule_of : (k : Kind) (ps : List Literal) (t : ℕ) (price : Price) → fitting (rules k ps t price) ≡ true → compose_refusal k ps price ≡ None → (r : Rule) × (r.row ≡ composed k ps t price)
rule_of k ps t price fit accepted =
    let head = (and_parts (fitting_pairs ps) (fitting_head k t price) (and_parts (leb 1 (length ps) && leb (length ps) 4) _ fit).1).1 in
    let bytes = head_bytes k t price head in
    let (some, few, full, ascending, exact) = accepted_shape (composed k ps t price) k ps t price refl bytes.0 bytes.1 accepted in
    (record { row = composed k ps t price; some = some; few = few; full = full; ascending = ascending; exact = exact }, refl)

-- what the line of a rule states
abbrev pub stated_rule : Rule → Stated
stated_rule r = rules r.row.kind (condition r.row) r.row.target r.row.price

-- what it states fits
bytes_fit : (ps : List Literal) → AllByRecursion (λ (l : Literal). (l.decision ≤ 255) × (l.value ≤ 255)) ps → fitting_pairs ps ≡ true
bytes_fit [] h = refl
bytes_fit (p ∷ ps) h = grind (arith, common_steps, bytes_fit ps h.1)

exact_fits : (r : Row) → is_exact r ≡ true → fitting_head r.kind r.target r.price ≡ true
exact_fits r h = grind (arith, common_steps)

pub stated_fits : (r : Rule) → BytePaired r → fitting (stated_rule r) ≡ true
stated_fits r h = grind (arith, common_steps, bytes_fit, exact_fits)
