-- Decisions that open accepts, and the pairs of the rules beside them, are numbers of a byte.
use Rattle.std.proofs.lemmas.Grind.{common_steps}
use Rattle.std.proofs.Common.{◌≡◌, ℕ, zero, suc, ◌≤◌, true, ltb, leb, List, [], ◌∷◌, length, None, arith}
use Rattle.std.proofs.ByRecursion.{All-weaker}
use Rattle.std.proofs.lemmas.Bool.{and_parts, leb-true, ltb-true, not-false}
use Rattle.std.specs.List.{AllByRecursion}
use Rattle.rules.specs.Judging.{has_size, sized, open_refusal, known_decisions, known_value, known_values, row_refusal}
use Rattle.rules.specs.Plans.{size_at}
use Rattle.rules.specs.declared.decision.Decision.{Decision}
use Rattle.rules.specs.declared.literal.Literal.{Literal}
use Rattle.rules.specs.declared.rule.Rule.{Rule}
use Rattle.rules.proofs.Grounds.{when_none, option_or_none}
use Rattle.rules.proofs.Verdicts.{accepted_few}
use Rattle.book.specs.Laws.{ByteSized, BytePaired}

-- accepted decisions are sized
pub accepted_sized : (ds : List Decision) → open_refusal ds ≡ None → sized ds ≡ true
accepted_sized ds h = not-false (sized ds) (when_none _ _ (option_or_none _ _ h).1)

sizes_small : (ds : List Decision) → sized ds ≡ true → AllByRecursion (λ (d : Decision). d.size ≤ 16) ds
sizes_small [] h = tt
sizes_small (d ∷ ds) h =
    let (here, later) = and_parts (has_size d) (sized ds) h in
    (leb-true d.size 16 (and_parts (leb 1 d.size) (leb d.size 16) here).1, sizes_small ds later)

size_small : (ds : List Decision) (d : ℕ) → AllByRecursion (λ (e : Decision). e.size ≤ 16) ds → size_at ds d ≤ 16
size_small [] d h = omega arith
size_small (e ∷ ds) zero h = h.0
size_small (e ∷ ds) (suc d) h = size_small ds d h.1

pairs_fit : (ds : List Decision) (ls : List Literal) → open_refusal ds ≡ None → known_decisions (length ds) ls ≡ true → known_values ds ls ≡ true → AllByRecursion (λ (l : Literal). (l.decision ≤ 255) × (l.value ≤ 255)) ls
pairs_fit ds [] opens ks vs = tt
pairs_fit ds (l ∷ ls) opens ks vs =
    let (k, later-ks) = and_parts (ltb l.decision (length ds)) (known_decisions (length ds) ls) ks in
    let (v, later-vs) = and_parts (known_value ds l) (known_values ds ls) vs in
    let small = leb-true l.value (size_at ds l.decision) (and_parts (leb 1 l.value) (leb l.value (size_at ds l.decision)) v).1 in
    ((omega (arith, ltb-true l.decision (length ds) k, accepted_few ds opens), omega (arith, size_small ds l.decision (sizes_small ds (accepted_sized ds opens)))), pairs_fit ds ls opens later-ks later-vs)

-- the sizes of accepted decisions are bytes
pub sizes_fit : (ds : List Decision) → open_refusal ds ≡ None → AllByRecursion ByteSized ds
sizes_fit ds opens = All-weaker (λ (d : Decision). d.size ≤ 16) ByteSized (λ d h. omega arith) ds (sizes_small ds (accepted_sized ds opens))

-- so are the pairs of a rule that they allow
pub rule_fits : (ds : List Decision) (r : Rule) → open_refusal ds ≡ None → row_refusal ds r.row ≡ None → BytePaired r
rule_fits ds r opens h = grind (arith, common_steps, option_or_none, when_none, pairs_fit)
