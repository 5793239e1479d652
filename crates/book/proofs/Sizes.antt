-- The text of what a planner holds is short enough to be loaded.
use Rattle.std.proofs.lemmas.Grind.{common_steps}
use Rattle.std.proofs.Common.{◌≡◌, ℕ, ◌*◌, ◌<◌, ◌≤◌, Bool, true, false, List, [], ◌∷◌, ◌++◌, map, length, None, decimal, add-mul, arith, length-append, length-take}
use lib.ListN.{length-map}
use Rattle.std.proofs.lemmas.Fmt.{length-decimal-le}
use Rattle.std.proofs.ByRecursion.{All-append, All-map, All-weaker}
use Rattle.std.specs.List.{AllByRecursion}
use Rattle.measure.specs.declared.price.Price.{Price}
use Rattle.rules.specs.Compose.{is_exact}
use Rattle.rules.specs.Conditions.{condition}
use Rattle.rules.specs.Judging.{open_refusal}
use Rattle.rules.specs.Plans.{Book}
use Rattle.rules.specs.declared.decision.Decision.{Decision}
use Rattle.rules.specs.declared.literal.Literal.{Literal}
use Rattle.rules.specs.declared.row.Kind.{Kind}
use Rattle.rules.specs.declared.row.Kind.TheVariants.{Forbid, Activate, Price as Priced}
use Rattle.rules.specs.declared.row.Row.{Row}
use Rattle.rules.specs.declared.rule.Rule.{Rule}
use Rattle.rules.proofs.Verdicts.{accepted_few}
use Rattle.rendering.specs.Texts.{spaced, ended, pair_text, mark_text, head_fields, decision_line, parts_line, rule_line}
use Rattle.book.specs.Laws.{ByteSized, BytePaired, stated_by}
use Rattle.book.proofs.Fitting.{sizes_fit, rule_fits}
use Rattle.book.proofs.Holding.{Holds, all_rules, rules_few, rules_of}

-- a line or a field of fewer than n bytes
abbrev pub Shorter : ℕ → List ℕ → Type 0
Shorter n l = length l < n

-- lines of fewer than n bytes make a text of at most n bytes for each
pub ended_short : (n : ℕ) (ls : List (List ℕ)) → AllByRecursion (Shorter n) ls → length (ended ls) ≤ length ls * n
ended_short n [] h = omega arith
ended_short n (l ∷ ls) h = omega (arith, length-append l (10 ∷ ended ls), ended_short n ls h.1, h.0, add-mul 1 (length ls) n)

-- so do fields
pub spaced_short : (n : ℕ) (fs : List (List ℕ)) → AllByRecursion (Shorter n) fs → length (spaced fs) ≤ length fs * n
spaced_short n [] h = omega arith
spaced_short n (f ∷ fs) h = omega (arith, length-append f (spaced fs), spaced_short n fs h.1, h.0, add-mul 1 (length fs) n)

-- a byte has at most 3 digits
pub byte_short : (n : ℕ) → n ≤ 255 → length (decimal n) ≤ 3
byte_short n h = length-decimal-le 3 n (omega arith) (omega arith) (omega arith)

pair_short : (l : Literal) → (l.decision ≤ 255) × (l.value ≤ 255) → Shorter 11 (pair_text l)
unfolding pair_text
pair_short l h = omega (arith, length-append (decimal l.decision) (61 ∷ decimal l.value), byte_short l.decision h.0, byte_short l.value h.1)

mark_short : (b : Bool) → Shorter 4 (mark_text b)
mark_short true = omega arith
mark_short false = omega arith

decision_short : (d : Decision) → d.size ≤ 255 → Shorter 68 (decision_line d)
unfolding decision_line
decision_short d h = omega (arith, spaced_short 4 (decimal d.size ∷ mark_text d.on ∷ []) (let size : Shorter 4 (decimal d.size) = omega (arith, byte_short d.size h) in (size, (mark_short d.on, tt))))

-- what stands before a rule's pairs: at most two numbers
head_few : (k : Kind) (target : ℕ) (price : Price) → length (head_fields k target price) ≤ 2
head_few Forbid target price = omega arith
head_few Activate target price = omega arith
head_few Priced target price = omega arith

head_short : (k : Kind) (target : ℕ) (price : Price) → target ≤ 255 → price.tier ≤ 255 → price.cents ≤ 1000000000 → AllByRecursion (Shorter 11) (head_fields k target price)
head_short Forbid target price t p c = tt
head_short Activate target price t p c = (omega (arith, byte_short target t), tt)
head_short Priced target price t p c = (omega (arith, byte_short price.tier p), (omega (arith, length-decimal-le 10 price.cents (omega arith) (omega arith) (omega arith)), tt))

-- the numbers of an exact row are in range
exact_small : (r : Row) → is_exact r ≡ true → (r.target ≤ 255) × (r.price.tier ≤ 255) × (r.price.cents ≤ 1000000000)
exact_small r h = grind (arith, common_steps)

rule_short : (r : Rule) → BytePaired r → Shorter 68 (rule_line r.row)
unfolding parts_line
rule_short r fits =
    let row = r.row in
    let ps = condition row in
    let head = head_fields row.kind row.target row.price in
    let (t, p, c) = exact_small row r.exact in
    let all : AllByRecursion (Shorter 11) (head ++ map pair_text ps) = All-append (Shorter 11) head (map pair_text ps) (head_short row.kind row.target row.price t p c)
    (All-map (Shorter 11) pair_text ps (All-weaker (λ (l : Literal). (l.decision ≤ 255) × (l.value ≤ 255)) (λ (l : Literal). Shorter 11 (pair_text l)) pair_short ps fits)) in
    let few : length (head ++ map pair_text ps) ≤ 6 = omega (arith, length-append head (map pair_text ps), head_few row.kind row.target row.price, length-map ps pair_text, length-take row.count row.pairs, r.few) in
    omega (arith, spaced_short 11 (head ++ map pair_text ps) all)

rules_short : (rs : List Rule) → AllByRecursion BytePaired rs → AllByRecursion (Shorter 68) (map rule_line (map (λ (r : Rule). r.row) rs))
rules_short [] fits = tt
rules_short (r ∷ rs) fits = (rule_short r fits.0, rules_short rs fits.1)

-- at most 64 decisions of sizes that are bytes, and at most 768 rules of pairs that are bytes, make a text of at most 65,536 bytes
pub stated_short : (ds : List Decision) (rs : List Rule) → length ds ≤ 64 → length rs ≤ 768 → AllByRecursion ByteSized ds → AllByRecursion BytePaired rs → length (stated_by ds rs) ≤ 65536
stated_short ds rs few_ds few_rs sizes pairs =
    let rows = map (λ (r : Rule). r.row) rs in
    let lines = map decision_line ds ++ map rule_line rows in
    let all : AllByRecursion (Shorter 68) lines = All-append (Shorter 68) (map decision_line ds) (map rule_line rows) (All-map (Shorter 68) decision_line ds (All-weaker ByteSized (λ (d : Decision). Shorter 68 (decision_line d)) decision_short ds sizes))
    (rules_short rs pairs) in
    let few : length lines ≤ 832 = omega (arith, length-append (map decision_line ds) (map rule_line rows), length-map ds decision_line, length-map rows rule_line, length-map rs (λ (r : Rule). r.row)) in
    omega (arith, ended_short 68 lines all)

-- the pairs of all rules that are held are bytes
pub held_fits : (ds : List Decision) (b : Book) → open_refusal ds ≡ None → (h : Holds ds b) → AllByRecursion BytePaired (rules_of ds b h)
held_fits ds b opens h = all_rules ds b h BytePaired (λ k r one. rule_fits ds r opens one.known)

-- so the text of what is held is short
pub held_short : (ds : List Decision) (b : Book) → open_refusal ds ≡ None → (h : Holds ds b) → length (stated_by ds (rules_of ds b h)) ≤ 65536
held_short ds b opens h = stated_short ds (rules_of ds b h) (accepted_few ds opens) (rules_few ds b h) (sizes_fit ds opens) (held_fits ds b opens h)
