-- The order of a pair from the orders of its sides: p and q say that the first sides are at most one another, s and t the second.
use Rattle.std.specs.Prelude.{◌≡◌, Bool, true, false, not, ◌&&◌, ◌||◌, ◌⊎◌, refl}
use Rattle.std.proofs.Common.{inl, inr}
use Rattle.std.proofs.Common.{subst}
use Rattle.std.proofs.lemmas.Bool.{false≢true, and_from, and_parts}

-- the first sides decide, and where they are equal the second
abbrev pub sides : Bool → Bool → Bool → Bool
sides p q s = not q || (p && s)

pub sides_total : (p q s t : Bool) → (s ≡ true) ⊎ (t ≡ true) → (sides p q s ≡ true) ⊎ (sides q p t ≡ true)
sides_total p false s t h = inl refl
sides_total false true s t h = inr refl
sides_total true true s t h = h

pub sides_equal : (p q s t : Bool) → (p ≡ true) ⊎ (q ≡ true) → sides p q s ≡ true → sides q p t ≡ true → (p ≡ true) × (q ≡ true) × (s ≡ true) × (t ≡ true)
sides_equal true true s t h a b = (refl, refl, a, b)
sides_equal true false s t h a b = absurd (false≢true b)
sides_equal false true s t h a b = absurd (false≢true a)
sides_equal false false s t (inl e) a b = absurd (false≢true e)
sides_equal false false s t (inr e) a b = absurd (false≢true e)

pub sides_least : (p q s : Bool) → p ≡ true → s ≡ true → sides p q s ≡ true
sides_least p false s h k = refl
sides_least true true s h k = k
sides_least false true s h k = h

-- three costs: p and q compare the first sides of the first two, u and v of the last two, w and x of the outer two; s, t and r the second sides
pub sides_transitive : (p q s u v t w x r : Bool) → (p ≡ true) ⊎ (q ≡ true) → (p ≡ true → u ≡ true → w ≡ true) → (x ≡ true → p ≡ true → v ≡ true)
    → (u ≡ true → x ≡ true → q ≡ true) → (s ≡ true → t ≡ true → r ≡ true) → sides p q s ≡ true → sides u v t ≡ true → sides w x r ≡ true
sides_transitive p q s u v t w false r total outer left right second h k = refl
sides_transitive p true s u v t w true r total outer left right second h k =
    let (first, later) = and_parts p s h in
    let (next, last) = and_parts u t (subst (λ (b : Bool). sides u b t ≡ true) (left refl first) k) in
    and_from w r (outer first next) (second later last)
sides_transitive true false s u v t w true r total outer left right second h k =
    let (next, last) = and_parts u t (subst (λ (b : Bool). sides u b t ≡ true) (left refl refl) k) in
    absurd (false≢true (right next refl))
sides_transitive false false s u v t w true r (inl e) outer left right second h k = absurd (false≢true e)
sides_transitive false false s u v t w true r (inr e) outer left right second h k = absurd (false≢true e)
