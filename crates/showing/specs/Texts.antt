-- The texts of answers and of items.
use Rattle.std.specs.Prelude.{ℕ, List, [], ◌∷◌, ◌++◌, Option, Some, Result, Ok, Err, codes, decimal}
use Rattle.std.specs.Fmt.{option_append}
use Rattle.rules.specs.Refusals.{number_of}
use Rattle.rules.specs.declared.refusal.Refusal.{Refusal}

-- the text of the value, or the refusal's number
abbrev pub answer_text : {T : Type 0} → (T → Option (List ℕ)) → Result T Refusal → Option (List ℕ)
answer_text text (Ok x) = text x
answer_text text (Err e) = Some (codes "refused " ++ decimal (number_of e))

-- a space and the text of each item
abbrev pub each_after_a_space : {T : Type 0} → (T → Option (List ℕ)) → List T → Option (List ℕ)
each_after_a_space text [] = Some []
each_after_a_space text (x ∷ xs) = option_append (option_append (Some (codes " ")) (text x)) (each_after_a_space text xs)

-- the texts of items, with a space between each two
abbrev pub spaced_text : {T : Type 0} → (T → Option (List ℕ)) → List T → Option (List ℕ)
spaced_text text [] = Some []
spaced_text text (x ∷ xs) = option_append (text x) (each_after_a_space text xs)
