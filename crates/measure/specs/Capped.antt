-- The sum that stops at the largest number m is associative, by which of the partial sums stop.
use Rattle.std.specs.Prelude.{◌≡◌, ℕ, ◌+◌, ◌<◌, ◌≤◌, min, max, ◌⊎◌}
use Rattle.std.proofs.Common.{sym, ◌∙◌, inl, inr, ⊎_elim, arith}
use Rattle.std.proofs.lemmas.Bool.{cases_lt}

unfoldable pub cap : ℕ → ℕ → ℕ → ℕ
cap m a b = max (max a b) (min (a + b) m)

below : (m a b : ℕ) → a + b ≤ m → cap m a b ≡ a + b
unfolding cap
below m a b h = omega arith

above : (m a b : ℕ) → m < a + b → cap m a b ≡ max (max a b) m
unfolding cap
above m a b h = omega arith

-- the sum itself, or where that is past m the largest of the parts and m
cap_is : (m a b : ℕ) → ((a + b ≤ m) × (cap m a b ≡ a + b)) ⊎ ((m < a + b) × (cap m a b ≡ max (max a b) m))
cap_is m a b = ⊎_elim (λ h. inr (h, above m a b h)) (λ h. inl (h, below m a b h)) (cases_lt m (a + b))

-- where a part has reached m, the larger part
left : (m a b : ℕ) → m ≤ a → cap m a b ≡ max a b
unfolding cap
left m a b h = omega arith

right : (m a b : ℕ) → m ≤ b → cap m a b ≡ max a b
unfolding cap
right m a b h = omega arith

largest : (m a b c : ℕ) → max (max (max a b) m) c ≡ max a (max (max b c) m)
largest m a b c = omega arith

-- with the inner sums known, the outer ones are compared
outer : (m a b c x y : ℕ) → ((a + b ≤ m) × (x ≡ a + b)) ⊎ ((m < a + b) × (x ≡ max (max a b) m)) → ((b + c ≤ m) × (y ≡ b + c)) ⊎ ((m < b + c) × (y ≡ max (max b c) m)) → cap m x c ≡ cap m a y
unfolding cap
outer m a b c x y (inl p) (inl q) = omega arith
outer m a b c x y (inl p) (inr q) = omega arith
outer m a b c x y (inr p) (inl q) = omega arith
outer m a b c x y (inr p) (inr q) = left m x c (omega arith) ∙ rw (p.1, q.1) (largest m a b c) ∙ sym (right m a y (omega arith))

pub cap_associative : (m a b c : ℕ) → cap m (cap m a b) c ≡ cap m a (cap m b c)
cap_associative m a b c = outer m a b c (cap m a b) (cap m b c) (cap_is m a b) (cap_is m b c)
