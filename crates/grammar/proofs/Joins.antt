-- Texts without a byte, and texts cut at it and joined again.
use Rattle.std.proofs.lemmas.Grind.{common_steps}
use Rattle.std.proofs.Common.{◌≡◌, ℕ, suc, ◌+◌, ◌<◌, true, false, cond, eqb, List, [], ◌∷◌, ◌++◌, length, take, drop, sym, refl, ap, ◌∙◌, append_assoc, append-nil, add-one, arith}
use Rattle.std.specs.List.{AllByRecursion}
use Rattle.std.proofs.lemmas.List.{append_cancel_right, take-append-le, take_all}
use Rattle.std.proofs.lemmas.Bool.{cond-true, cond-false, eqb-true, eq-eqb, ne_eqb}
use Rattle.reading.specs.Pieces.{before, longer, pieces}
use Rattle.reading.proofs.Cuts.{cut_last}
use Rattle.rendering.specs.Texts.{ended, spaced}

-- a text without the byte b
abbrev pub Lacks : ℕ → List ℕ → Type 0
Lacks b xs = before b xs ≡ length xs

-- pieces, with the byte b behind each
abbrev pub closed : ℕ → List (List ℕ) → List ℕ
closed b [] = []
closed b (p ∷ ps) = p ++ b ∷ closed b ps

module _ (b : ℕ) where
  pub lacks_more : (x : ℕ) (xs : List ℕ) → (x ≡ b → ⊥) → Lacks b xs → Lacks b (x ∷ xs)
  lacks_more x xs ne h = cond-false (eqb x b) 0 (suc (before b xs)) (ne_eqb x b ne) ∙ ap suc h

  pub lacks_append : (xs ys : List ℕ) → Lacks b xs → Lacks b ys → Lacks b (xs ++ ys)
  lacks_append [] ys h k = k
  lacks_append (x ∷ xs) ys h k =
      (elim (eqb x b) as (λ t. cond t 0 (suc (before b xs)) ≡ suc (length xs) → cond t 0 (suc (before b (xs ++ ys))) ≡ suc (length (xs ++ ys)))
      [ true ↦ λ e. absurd (omega arith) | false ↦ λ e. ap suc (lacks_append xs ys (omega arith) k) ]) h

  -- where a text without b ends at a b: how many bytes stand before it, the text, and what stands behind
  pub before_behind : (xs ys : List ℕ) → Lacks b xs → before b (xs ++ b ∷ ys) ≡ length xs
  before_behind [] ys h = cond-true (eqb b b) 0 (suc (before b ys)) (eq-eqb b b refl)
  before_behind (x ∷ xs) ys h =
      (elim (eqb x b) as (λ t. cond t 0 (suc (before b xs)) ≡ suc (length xs) → cond t 0 (suc (before b (xs ++ b ∷ ys))) ≡ suc (length xs))
      [ true ↦ λ e. absurd (omega arith) | false ↦ λ e. ap suc (before_behind xs ys (omega arith)) ]) h

  cut_behind : (xs ys : List ℕ) → Lacks b xs → pieces b (xs ++ b ∷ ys) ≡ xs ∷ pieces b ys
  unfolding pieces
  cut_behind [] ys h = cond-true (eqb b b) ([] ∷ pieces b ys) (longer b (pieces b ys)) (eq-eqb b b refl)
  cut_behind (x ∷ xs) ys h =
      (elim (eqb x b) as
      (λ t. cond t 0 (suc (before b xs)) ≡ suc (length xs) → cond t ([] ∷ pieces b (xs ++ b ∷ ys)) (longer x (pieces b (xs ++ b ∷ ys))) ≡ (x ∷ xs) ∷ pieces b ys)
      [ true ↦ λ e. absurd (omega arith) | false ↦ λ e. ap (longer x) (cut_behind xs ys (omega arith)) ]) h

  -- closed pieces without b are cut apart again, with nothing behind the last
  pub cut_closed : (ps : List (List ℕ)) → AllByRecursion (Lacks b) ps → pieces b (closed b ps) ≡ ps ++ [] ∷ []
  unfolding pieces
  cut_closed [] h = refl
  cut_closed (p ∷ ps) h = cut_behind p (closed b ps) h.0 ∙ ap (λ (qs : List (List ℕ)). p ∷ qs) (cut_closed ps h.1)

  -- the pieces of a text, closed, are the text, closed
  pub closed_pieces : (xs : List ℕ) → closed b (pieces b xs) ≡ xs ++ b ∷ []
  unfolding pieces
  closed_pieces [] = refl
  closed_pieces (x ∷ xs) = grind (arith, common_steps, closed_pieces xs)

  -- a text with a b is what stands before the first, it, and what stands behind
  split_byte : (xs : List ℕ) → before b xs < length xs → xs ≡ take (before b xs) xs ++ b ∷ drop (suc (before b xs)) xs
  split_byte [] h = absurd (omega arith)
  split_byte (x ∷ xs) h =
      (elim (eqb x b) as
      (λ t. eqb x b ≡ t → cond t 0 (suc (before b xs)) < suc (length xs) → x ∷ xs ≡ take (cond t 0 (suc (before b xs))) (x ∷ xs) ++ b ∷ drop (suc (cond t 0 (suc (before b xs)))) (x ∷ xs))
      [ true ↦ λ e k. ap (λ (y : ℕ). y ∷ xs) (eqb-true x b e) | false ↦ λ e k. ap (λ (t : List ℕ). x ∷ t) (split_byte xs (omega arith)) ]) refl h

  pub at_byte : (xs : List ℕ) → before b xs < length xs → xs ≡ take (before b xs) xs ++ b ∷ drop (before b xs + 1) xs
  at_byte xs h = split_byte xs h ∙ ap (λ (k : ℕ). take (before b xs) xs ++ b ∷ drop k xs) (sym (add-one (before b xs)))

-- the parts before and behind the end of a text's front
pub take_front : (xs ys : List ℕ) → take (length xs) (xs ++ ys) ≡ xs
take_front xs ys = take-append-le (length xs) xs ys (omega arith) ∙ take_all (length xs) xs (omega arith)

pub drop_front : (b : ℕ) (xs ys : List ℕ) → drop (length xs + 1) (xs ++ b ∷ ys) ≡ ys
drop_front b [] ys = refl
drop_front b (x ∷ xs) ys = rw add-one (let e : drop (length xs + 1) (xs ++ b ∷ ys) ≡ ys = drop_front b xs ys in rw add-one at e)

-- lines are closed by byte 10, and fields are opened by byte 32
pub ended_closed : (ls : List (List ℕ)) → ended ls ≡ closed 10 ls
ended_closed [] = refl
ended_closed (l ∷ ls) = ap (λ (t : List ℕ). l ++ 10 ∷ t) (ended_closed ls)

spaced_closed : (fs : List (List ℕ)) → spaced fs ++ 32 ∷ [] ≡ 32 ∷ closed 32 fs
spaced_closed [] = refl
spaced_closed (f ∷ fs) = ap (λ (t : List ℕ). 32 ∷ t) (append_assoc f (spaced fs) (32 ∷ []) ∙ ap (λ (t : List ℕ). f ++ t) (spaced_closed fs))

pub spaced_pieces : (xs : List ℕ) → spaced (pieces 32 xs) ≡ 32 ∷ xs
spaced_pieces xs =
    append_cancel_right (spaced (pieces 32 xs)) (32 ∷ xs) (32 ∷ [])
    (spaced_closed (pieces 32 xs) ∙ ap (λ (t : List ℕ). 32 ∷ t) (closed_pieces 32 xs))

pub cut_spaced : (f : List ℕ) (fs : List (List ℕ)) → Lacks 32 f → AllByRecursion (Lacks 32) fs → pieces 32 (f ++ spaced fs) ≡ f ∷ fs
cut_spaced f [] h k = ap (pieces 32) (append-nil f) ∙ cut_last 32 f h
cut_spaced f (g ∷ gs) h k = cut_behind 32 f (g ++ spaced gs) h ∙ ap (λ (qs : List (List ℕ)). f ∷ qs) (cut_spaced g gs k.0 k.1)

-- fields without a byte, a space in front of each
pub lacks_spaced : (b : ℕ) (fs : List (List ℕ)) → (32 ≡ b → ⊥) → AllByRecursion (Lacks b) fs → Lacks b (spaced fs)
lacks_spaced b [] ne h = refl
lacks_spaced b (f ∷ fs) ne h = lacks_more b 32 (f ++ spaced fs) ne (lacks_append b f (spaced fs) h.0 (lacks_spaced b fs ne h.1))
