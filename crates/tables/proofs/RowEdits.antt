-- The rows in use after one is put behind them or taken out.
use Rattle.std.proofs.Common.{◌≡◌, ℕ, zero, suc, ◌+◌, ◌-◌, ◌<◌, ◌≤◌, true, List, [], ◌∷◌, ◌++◌, length, take, drop, sym, refl, ◌∙◌, ap₂, add-one, arith}
use lib.Seq.{paste}
use Rattle.std.proofs.lemmas.List.Edits.{take-paste}
use Rattle.std.proofs.lemmas.List.{take-take, drop-take, length-drop}
use Rattle.std.proofs.lemmas.Bool.{and_from, and_parts}
use Rattle.std.specs.List.{remove}
use Rattle.rules.specs.declared.row.Row.{Row}
use Rattle.tables.specs.Shapes.{all_shaped, shaped}

-- one more row of the shape
pub shaped_push : (rs : List Row) (r : Row) → all_shaped rs ≡ true → shaped r ≡ true → all_shaped (rs ++ r ∷ []) ≡ true
shaped_push [] r all one = and_from (shaped r) true one refl
shaped_push (x ∷ rs) r all one =
    let both = and_parts (shaped x) (all_shaped rs) all in
    and_from (shaped x) (all_shaped (rs ++ r ∷ [])) both.0 (shaped_push rs r both.1 one)

-- the rows but one
pub shaped_removed : (rs : List Row) (i : ℕ) → all_shaped rs ≡ true → all_shaped (remove rs i) ≡ true
shaped_removed [] zero all = refl
shaped_removed [] (suc i) all = refl
shaped_removed (x ∷ rs) zero all = (and_parts (shaped x) (all_shaped rs) all).1
shaped_removed (x ∷ rs) (suc i) all =
    let both = and_parts (shaped x) (all_shaped rs) all in
    and_from (shaped x) (all_shaped (remove rs i)) both.0 (shaped_removed rs i both.1)

-- the first n elements, with those behind place i copied over it: the element at i is out
pub closed_gap : {X : Type 0} (xs ys : List X) (n i : ℕ) → n ≤ length xs → i < n → ys ≡ paste xs i (drop (i + 1) xs) (n - (i + 1)) → take (n - 1) ys ≡ remove (take n xs) i
closed_gap {X} xs ys n i h l e =
    let rest = n - (i + 1) in
    let front : i + rest ≡ n - 1 = omega arith in
    let whole : i + 1 + rest ≡ n = omega arith in
    ap₂ (λ (k : ℕ) (zs : List X). take k zs) (sym front) e
    ∙ take-paste xs i (drop (i + 1) xs) rest (omega arith) (simp length-drop (omega arith))
    ∙ ap₂ (λ a b. a ++ b) (sym (take-take i n xs (omega arith)))
    (sym (drop-take (i + 1) rest xs) ∙ ap₂ (λ (k m : ℕ). drop k (take m xs)) (add-one i) whole)
