-- The laws of lines and texts.
use Rattle.std.specs.Prelude.{◌≡◌, ℕ, Bool, true, false, ◌&&◌, List, map, Ok}
use Rattle.rendering.specs.Texts.{ended}
use Rattle.statements.specs.Lines.{TextLine, lines_of}
use Rattle.statements.specs.Statements.{Stated, read_line}
use Rattle.grammar.specs.Grammar.{all_ended, all_fitting, ended_lines, fitting, is_decided, line_text}

-- a line that is read as s is the text of s and has its end; s fits, and is no decision behind a rule
abbrev pub ReadsOnlyText : Type 0
ReadsOnlyText = (began : Bool) (l : TextLine) (s : Stated) → read_line began l ≡ Ok s → (l.bytes ≡ line_text s) × (l.ended ≡ true) × (fitting s ≡ true) × ((began && is_decided s) ≡ false)

-- the text of an s that fits, with its end, is read as s, unless s is a decision behind a rule
abbrev pub TextIsRead : Type 0
TextIsRead = (s : Stated) → fitting s ≡ true → (began : Bool) → (began && is_decided s) ≡ false → (n : ℕ) → read_line began (record { bytes = line_text s; number = n; ended = true }) ≡ Ok s

-- the lines of statements that fit are cut apart again, and numbered from 1
abbrev pub LinesOfText : Type 0
LinesOfText = (ss : List Stated) → all_fitting ss ≡ true → lines_of (ended (map line_text ss)) ≡ ended_lines 1 (map line_text ss)

-- a text whose lines are all ended is its lines
abbrev pub TextOfLines : Type 0
TextOfLines = (text : List ℕ) → all_ended (lines_of text) ≡ true → text ≡ ended (map (λ l. l.bytes) (lines_of text))
