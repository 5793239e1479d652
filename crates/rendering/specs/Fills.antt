-- A text written into a caller's buffer: its bytes in front and the later ones as they were, or nothing if it is too long.
use Rattle.std.specs.Prelude.{ℕ, cond, List, ◌++◌, length, drop, Ok, Err, Result, nat_lt}
use Rattle.rules.specs.declared.refusal.Refusal.{Refusal}
use Rattle.rules.specs.declared.refusal.Refusal.TheVariants.{ShortText}

-- what writing a text answers: the byte count, or that the buffer is short
abbrev pub counted : List ℕ → List ℕ → Result ℕ Refusal
counted text buffer = cond (nat_lt (length buffer) (length text)) (Err ShortText) (Ok (length text))

-- what the buffer then holds; a short one stays as it was
abbrev pub filled : List ℕ → List ℕ → List ℕ
filled text buffer = cond (nat_lt (length buffer) (length text)) buffer (text ++ drop (length text) buffer)
