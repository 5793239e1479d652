-- The fields of a line: how many there are, and the first that is empty or too many.
use Rattle.std.specs.Prelude.{ℕ, ◌+◌, Bool, true, cond, not, ◌||◌, List, [], ◌∷◌, length, Some, None, Option, nat_lt}
use Rattle.std.specs.Option.{option_or}
use Rattle.reading.specs.Cursors.{left_at}
use Rattle.reading.specs.Pieces.{is_nil}
use Rattle.rules.specs.Refusals.{when}
use Rattle.statements.specs.declared.line.LineKind.{LineKind}
use Rattle.statements.specs.declared.line.LineKind.TheVariants.{Decision, Forbid, Activate, Price}

-- the fields of a line: what stands behind its kind and one byte more, cut at each space
abbrev pub fields_of : List ℕ → List (List ℕ)
fields_of line = left_at 32 line 2

-- how many fields a line of a kind has before its pairs
abbrev pub heads : LineKind → ℕ
heads Decision = 2
heads Forbid = 0
heads Activate = 1
heads Price = 2

-- whether a line of a kind may have a field at a place, counted from 0: a decision has two, a rule any number
abbrev pub takes_field : LineKind → ℕ → Bool
takes_field Decision n = nat_lt n 2
takes_field Forbid n = true
takes_field Activate n = true
takes_field Price n = true

-- the column of the first field that is empty or too many, where the fields begin with place n at column c
unfoldable pub first_bad : LineKind → ℕ → ℕ → List (List ℕ) → Option ℕ
first_bad k n c [] = None
first_bad k n c (f ∷ fs) = cond (is_nil f || not (takes_field k n)) (Some c) (first_bad k (n + 1) (c + length f + 1) fs)

-- the column of the first field that is empty, too many or missing, or of the missing end: what is missing stands one past the line
abbrev pub field_fault : LineKind → Bool → List ℕ → Option ℕ
field_fault k ended line =
    option_or (first_bad k 0 3 (fields_of line)) (when (nat_lt (length (fields_of line)) (heads k) || not ended) (length line + 1))
