-- The lines of a text, one by one.
use Rattle.std.proofs.Common.{◌≡◌, ℕ, ◌+◌, true, false, not, ◌&&◌, List, [], ◌∷◌, refl, ap, ◌∙◌}
use Rattle.std.proofs.lemmas.Bool.{and_parts, cond-false, cond-true}
use Rattle.reading.specs.Pieces.{is_nil}
use Rattle.statements.specs.Lines.{numbered}

module _ (n : ℕ) where
  pub no_line : (qs : List (List ℕ)) → qs ≡ [] → numbered n qs ≡ []
  unfolding numbered
  no_line qs e = ap (numbered n) e

  pub end_of_lines : (qs ps : List (List ℕ)) (p : List ℕ) → qs ≡ p ∷ ps → (is_nil p && is_nil ps) ≡ true → numbered n qs ≡ []
  unfolding numbered
  end_of_lines qs ps p e t = ap (numbered n) e ∙ cond-true (is_nil p && is_nil ps) [] _ t

  pub past_end : (ps : List (List ℕ)) (p : List ℕ) → (is_nil p && is_nil ps) ≡ true → numbered n ps ≡ []
  past_end [] p t = no_line [] refl
  past_end (q ∷ qs) p t = let z : false ≡ true = (and_parts (is_nil p) false t).1 in cc

  pub one_line : (qs ps : List (List ℕ)) (p : List ℕ) → qs ≡ p ∷ ps → (is_nil p && is_nil ps) ≡ false → numbered n qs ≡ record { bytes = p; number = n; ended = not (is_nil ps) } ∷ numbered (n + 1) ps
  unfolding numbered
  one_line qs ps p e t = ap (numbered n) e ∙ cond-false (is_nil p && is_nil ps) [] _ t
