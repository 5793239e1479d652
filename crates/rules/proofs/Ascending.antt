-- Pairs ascend where the decision of each is below that of the next.
use Rattle.std.proofs.lemmas.Grind.{common_steps}
use Rattle.std.proofs.Common.{◌≡◌, ℕ, zero, suc, ◌+◌, ◌<◌, ◌≤◌, Bool, true, false, ltb, leb, List, [], ◌∷◌, length, get_or, sym, refl, ap, ◌∙◌, add-one, arith}
use Rattle.std.proofs.lemmas.Bool.{and_from, and_right, ltb-true, le-leb}
use Rattle.std.specs.List.{IsAllAdjacentAnswer}
use Rattle.rules.specs.Compose.{ascends, ascends_from}
use Rattle.rules.specs.declared.literal.Literal.{Literal}

-- each pair is followed by a greater one, and the first is at least n
rise : (n : ℕ) (l : Literal) (ls : List Literal) → n ≤ l.decision
    → ((k : ℕ) (d : Literal) → suc k < suc (length ls) → ltb (get_or (l ∷ ls) k d).decision (get_or (l ∷ ls) (suc k) d).decision ≡ true) → ascends_from n (l ∷ ls) ≡ true
rise n l [] low all = and_from (leb n l.decision) true (le-leb n l.decision low) refl
rise n l (m ∷ ms) low all = grind (arith, common_steps, rise (l.decision + 1) m ms (omega (arith, ltb-true l.decision m.decision (all 0 l (omega arith)))) (λ k d h. all (suc k) d (omega arith)))

-- some pair is not
fall : (n : ℕ) (ls : List Literal) (k : ℕ) (d : Literal) → suc k < length ls → ltb (get_or ls k d).decision (get_or ls (suc k) d).decision ≡ false → ascends_from n ls ≡ false
fall n [] k d h e = absurd (omega arith)
fall n (l ∷ []) k d h e = absurd (omega arith)
fall n (l ∷ m ∷ ms) zero d h e = grind (arith, common_steps)
fall n (l ∷ m ∷ ms) (suc k) d h e = and_right (leb n l.decision) (ascends_from (l.decision + 1) (m ∷ ms)) (fall (l.decision + 1) (m ∷ ms) k d (omega arith) e)

at_next : (ls : List Literal) (k : ℕ) (d : Literal) (b : Bool) → b ≡ ltb (get_or ls k d).decision (get_or ls (k + 1) d).decision → ltb (get_or ls k d).decision (get_or ls (suc k) d).decision ≡ b
at_next ls k d b e = ap (λ (j : ℕ). ltb (get_or ls k d).decision (get_or ls j d).decision) (sym (add-one k)) ∙ sym e

pub ascends_by_neighbours : (ls : List Literal) (r : Bool) → IsAllAdjacentAnswer (λ x y b. b ≡ ltb x.decision y.decision) ls r → r ≡ ascends ls
ascends_by_neighbours [] true h = refl
ascends_by_neighbours (l ∷ ls) true h = sym (rise 0 l ls (omega arith) (λ k d low. at_next (l ∷ ls) k d true (h k d (omega arith))))
ascends_by_neighbours [] false (k, low, here) = absurd (omega arith)
ascends_by_neighbours (l ∷ ls) false (k, low, here) = sym (fall 0 (l ∷ ls) k l (omega arith) (at_next (l ∷ ls) k l false (here l)))
