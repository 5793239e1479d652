-- The lines of a text, and the kind of a line.
use Rattle.std.specs.Prelude.{ℕ, ◌+◌, Bool, true, false, cond, not, ◌&&◌, List, [], ◌∷◌, Some, None, Option, ◌==◌, slice_index}
use Rattle.reading.specs.Pieces.{is_nil, pieces}
use Rattle.statements.specs.declared.line.LineKind.{LineKind}
use Rattle.statements.specs.declared.line.LineKind.TheVariants.{Decision, Forbid, Activate, Price}

-- a line, its number from 1, and whether byte 10 ends it
pub record TextLine : Type 0 where
  pub bytes : List ℕ
  pub number : ℕ
  pub ended : Bool

-- lines, numbered from n, of a text that is cut at byte 10: what stands after the last byte 10 is a line if it is not empty
unfoldable pub numbered : ℕ → List (List ℕ) → List TextLine
numbered n [] = []
numbered n (p ∷ ps) = cond (is_nil p && is_nil ps) [] (record { bytes = p; number = n; ended = not (is_nil ps) } ∷ numbered (n + 1) ps)

-- the lines of a text
abbrev pub lines_of : List ℕ → List TextLine
lines_of text = numbered 1 (pieces 10 text)

-- the byte that a line of a kind begins with: D, F, A or P
abbrev pub letter_of : LineKind → ℕ
letter_of Decision = 68
letter_of Forbid = 70
letter_of Activate = 65
letter_of Price = 80

-- the kind that a byte stands for
abbrev pub kind_by : ℕ → Option LineKind
kind_by b = cond (b == 68) (Some Decision) (cond (b == 70) (Some Forbid) (cond (b == 65) (Some Activate) (cond (b == 80) (Some Price) None)))

-- the kind of a line: by its first byte, if a space follows
abbrev pub kind_of : List ℕ → Option LineKind
kind_of line = cond (slice_index line 1 == 32) (kind_by (slice_index line 0)) None

-- whether a line of this kind states a decision
abbrev pub is_decision : LineKind → Bool
is_decision Decision = true
is_decision Forbid = false
is_decision Activate = false
is_decision Price = false
