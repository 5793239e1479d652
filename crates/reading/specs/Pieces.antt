-- A text cut at a byte.
use Rattle.std.specs.Prelude.{ℕ, suc, ◌+◌, Bool, true, false, cond, List, [], ◌∷◌, length, take, drop, Some, None, Option, ◌==◌, nat_lt}

-- a byte more at the front of the first piece
abbrev pub longer : ℕ → List (List ℕ) → List (List ℕ)
longer x [] = (x ∷ []) ∷ []
longer x (p ∷ ps) = (x ∷ p) ∷ ps

-- a text cut at each byte b: what stands before the first, between one and the next, and after the last
unfoldable pub pieces : ℕ → List ℕ → List (List ℕ)
pieces b [] = [] ∷ []
pieces b (x ∷ xs) = cond (x == b) ([] ∷ pieces b xs) (longer x (pieces b xs))

-- how many bytes stand before the first b
abbrev pub before : ℕ → List ℕ → ℕ
before b [] = 0
before b (x ∷ xs) = cond (x == b) 0 (suc (before b xs))

-- what stands before the first b and what behind it, if there is a b
abbrev pub halves : ℕ → List ℕ → Option (List ℕ × List ℕ)
halves b xs = cond (nat_lt (before b xs) (length xs)) (Some (take (before b xs) xs, drop (before b xs + 1) xs)) None

-- whether a list has nothing
abbrev pub is_nil : {X : Type 0} → List X → Bool
is_nil [] = true
is_nil (x ∷ xs) = false
