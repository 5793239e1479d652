-- Where a text is cut at a byte.
use Rattle.std.proofs.lemmas.Grind.{common_steps}
use Rattle.std.proofs.Common.{◌≡◌, ℕ, suc, ◌+◌, ◌-◌, ◌<◌, ◌≤◌, true, false, cond, eqb, ltb, leb, List, [], ◌∷◌, length, take, drop, Some, None, Option, Bor, MatchOption, option_map, sym, refl, ap, ◌∙◌, add-sub_cancel, arith}
use Rattle.std.specs.List.{position, position_or_len}
use Rattle.std.proofs.lemmas.List.Recursion.{is_position_or_len}
use Rattle.std.proofs.lemmas.List.{length-take-le, drop-drop}
use Rattle.std.proofs.lemmas.Bool.{cond-true, cond-false, le-leb, lt-leb}
use Rattle.reading.specs.Cursors.{left_at}
use Rattle.reading.specs.Pieces.{pieces, longer, before, halves, is_nil}

-- the bytes before the first b, in the library's words
place_is : (b : ℕ) (xs : List ℕ) → before b xs ≡ position_or_len (λ x. eqb x b) xs
place_is b = is_position_or_len (before b) (λ x. eqb x b) refl (λ x xs. ap (cond (eqb x b) 0) (omega arith))

-- what stands on both sides of a place, if there is one
abbrev around : List ℕ → Option ℕ → Option (List ℕ × List ℕ)
around xs None = None
around xs (Some n) = Some (take n xs, drop (n + 1) xs)

pub halves_are : (b : ℕ) (xs : List ℕ) (o : Option ℕ) → o ≡ position (λ x. eqb x b) xs → around xs o ≡ halves b xs
halves_are b xs o e = grind (arith, common_steps, place_is)

before_within : (b : ℕ) (xs : List ℕ) → before b xs ≤ length xs
before_within b [] = omega arith
before_within b (x ∷ xs) =
    elim (eqb x b) as (λ t. cond t 0 (suc (before b xs)) ≤ suc (length xs)) [ true ↦ omega arith | false ↦ omega (arith, before_within b xs) ]

pub first_half : (b : ℕ) (whole first : List ℕ) (o : Option (Bor (List ℕ) × Bor (List ℕ))) → option_map (λ p. (p.0.now, p.1.now)) o ≡ halves b whole → MatchOption o (first ≡ whole) (λ p. first ≡ p.0.now) → first ≡ take (before b whole) whole
first_half b whole first o e h = grind (arith, common_steps)

-- the first piece, and what is cut after it
cut_first : (b : ℕ) (xs : List ℕ) → before b xs < length xs → pieces b xs ≡ take (before b xs) xs ∷ pieces b (drop (suc (before b xs)) xs)
unfolding pieces
cut_first b [] h = absurd (omega arith)
cut_first b (x ∷ xs) h =
    (elim (eqb x b) as
    (λ t. cond t 0 (suc (before b xs)) < suc (length xs) → cond t ([] ∷ pieces b xs) (longer x (pieces b xs))
    ≡ take (cond t 0 (suc (before b xs))) (x ∷ xs) ∷ pieces b (drop (suc (cond t 0 (suc (before b xs)))) (x ∷ xs)))
    [ true ↦ λ k. refl | false ↦ λ k. ap (longer x) (cut_first b xs (omega arith)) ]) h

-- a text without the byte is one piece
pub cut_last : (b : ℕ) (xs : List ℕ) → before b xs ≡ length xs → pieces b xs ≡ xs ∷ []
unfolding pieces
cut_last b [] h = refl
cut_last b (x ∷ xs) h =
    (elim (eqb x b) as (λ t. cond t 0 (suc (before b xs)) ≡ suc (length xs) → cond t ([] ∷ pieces b xs) (longer x (pieces b xs)) ≡ (x ∷ xs) ∷ [])
    [ true ↦ λ k. absurd (omega arith) | false ↦ λ k. ap (longer x) (cut_last b xs (omega arith)) ]) h

-- nothing is to come past the end
left_past : (b : ℕ) (xs : List ℕ) (p : ℕ) → length xs < p → left_at b xs p ≡ []
left_past b xs p h = cond-false (leb p (length xs)) _ [] (lt-leb p (length xs) h)

pub left_within : (b : ℕ) (xs : List ℕ) (p : ℕ) → p ≤ length xs → left_at b xs p ≡ pieces b (drop p xs)
left_within b xs p h = cond-true (leb p (length xs)) _ [] (le-leb p (length xs) h)

-- no more pieces than bytes, and one
few_pieces : (b : ℕ) (xs : List ℕ) → length (pieces b xs) ≤ length xs + 1
unfolding pieces
few_pieces b [] = omega arith
few_pieces b (x ∷ xs) = grind (arith, common_steps, few_pieces b xs)

pub few_left : (b : ℕ) (xs : List ℕ) (p : ℕ) → length (left_at b xs p) ≤ length xs + 1
few_left b xs p = grind (arith, common_steps, left_past, left_within, few_pieces)

-- there is always a piece
pub pieces_some : (b : ℕ) (xs : List ℕ) → is_nil (pieces b xs) ≡ false
unfolding pieces
pieces_some b [] = refl
pieces_some b (x ∷ xs) = grind (arith, common_steps)

-- so none is to come just when the end is passed
pub passed : (b : ℕ) (xs : List ℕ) (p : ℕ) → ltb (length xs) p ≡ is_nil (left_at b xs p)
passed b xs p = grind (arith, common_steps, left_past, left_within, pieces_some)

-- behind the next n bytes and one more
behind : (b : ℕ) (xs : List ℕ) (p n : ℕ) → p + n < length xs → pieces b (drop (suc n) (drop p xs)) ≡ left_at b xs (p + n + 1)
behind b xs p n h =
    let e : p + suc n ≡ p + n + 1 = omega arith in
    ap (pieces b) (drop-drop (suc n) p xs ∙ ap (λ (k : ℕ). drop k xs) e) ∙ sym (left_within b xs (p + n + 1) (omega arith))

-- a cursor at p gives the bytes before the next b, and goes on behind it
take_left : (b : ℕ) (xs : List ℕ) (p n : ℕ) → p ≤ length xs → n ≡ before b (drop p xs) → left_at b xs p ≡ take n (drop p xs) ∷ left_at b xs (p + n + 1)
take_left b xs p n h e = grind (arith, common_steps, left_within, cut_first, behind, cut_last, before_within, left_past)

-- the same of the bytes themselves, and where they stand in the text
module _ (b : ℕ) (xs : List ℕ) (p : ℕ) (whole first : List ℕ) (in_text : p ≤ length xs) (rest : whole ≡ drop p xs) (cut : first ≡ take (before b whole) whole) where
  is_part : first ≡ take (before b (drop p xs)) (drop p xs)
  is_part = cut ∙ ap (λ (ys : List ℕ). take (before b ys) ys) rest

  long : length first ≡ before b (drop p xs)
  long = ap length is_part ∙ length-take-le (before b (drop p xs)) (drop p xs) (before_within b (drop p xs))

  pub taken : left_at b xs p ≡ first ∷ left_at b xs (p + (length first + 1))
  taken =
      let e : p + length first + 1 ≡ p + (length first + 1) = omega arith in
      take_left b xs p (length first) in_text long ∙ ap (λ (n : ℕ). take n (drop p xs) ∷ left_at b xs (p + length first + 1)) long
      ∙ ap (λ (ys : List ℕ). ys ∷ left_at b xs (p + length first + 1)) (sym is_part) ∙ ap (λ (n : ℕ). first ∷ left_at b xs n) e

  pub placed : first ≡ take (length first) (drop (p + 1 - 1) xs)
  placed = is_part ∙ ap (λ (n : ℕ). take n (drop p xs)) (sym long) ∙ ap (λ (n : ℕ). take (length first) (drop n xs)) (sym (add-sub_cancel p 1))
