-- What a met condition tells: its two laws, which are all that proofs about plans use of it.
use Rattle.std.proofs.lemmas.Grind.{common_steps}
use Rattle.std.proofs.Common.{◌≡◌, ℕ, ◌<◌, true, eqb, List, [], ◌∷◌, refl, ⊎_elim, arith}
use Rattle.std.proofs.lemmas.Bool.{and_parts, or_cases, or_right, eqb-true, false≢true}
use Rattle.rules.specs.Conditions.{Plan, has, meets, names}
use Rattle.rules.specs.declared.literal.Literal.{Literal}

-- a plan that has a pair chooses its decision, and has its value
pub has_value : (p : Plan) (l : Literal) → has p l ≡ true → (0 < p l.decision) × (p l.decision ≡ l.value)
has_value p l h = grind (arith, common_steps)

-- a met condition names only chosen decisions
pub named_chosen : (p : Plan) (ls : List Literal) (d : ℕ) → meets p ls ≡ true → names ls d ≡ true → 0 < p d
named_chosen p [] d h k = absurd (false≢true k)
named_chosen p (l ∷ ls) d h k =
    let (here, later) = and_parts (has p l) (meets p ls) h in
    ⊎_elim (λ (e : eqb d l.decision ≡ true). rw (eqb-true d l.decision e) (has_value p l here).0)
    (λ (e : names ls d ≡ true). named_chosen p ls d later e) (or_cases (eqb d l.decision) (names ls d) k)

-- whether a condition is met depends only on the values of the decisions that it names
pub meets_same : (p q : Plan) (ls : List Literal) → ((d : ℕ) → names ls d ≡ true → p d ≡ q d) → meets p ls ≡ meets q ls
meets_same p q [] same = refl
meets_same p q (l ∷ ls) same = grind (arith, common_steps, meets_same p q ls (λ d k. same d (or_right (eqb d l.decision) (names ls d) k)))
