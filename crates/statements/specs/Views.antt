-- What values of the code stand for.
use Rattle.std.specs.Prelude.{◌≡◌, ℕ, ◌+◌, ◌-◌, Bool, List, length, take, drop, IfSome, None, Ok, Err, Option, Result}
use Rattle.std.specs.Iterator.{YieldsFirstBy}
use Rattle.rules.specs.declared.literal.Literal.{Literal}
use Rattle.reading.specs.Cursors.{column, left}
use Rattle.reading.specs.Numbers.{number_up_to}
use Rattle.statements.specs.Forms.{mark_of, pair_of}
use Rattle.statements.specs.Lines.{TextLine, numbered}
use Rattle.statements.specs.Statements.{Stated, decides, front, past, rules}
use Rattle.statements.specs.declared.fields.Fields.{Fields}
use Rattle.statements.specs.declared.line.Line.{Line}
use Rattle.statements.specs.declared.lines.Lines.{Lines}
use Rattle.statements.specs.declared.pairs.Pairs.{Pairs}
use Rattle.statements.specs.declared.statement.Statement.{Statement}
use Rattle.statements.specs.declared.statement.Statement.TheVariants.{Decision, Rule}
use Rattle.statements.specs.declared.token.Placed.{Placed}
use Rattle.statements.specs.declared.token.Token.{Token}
use Rattle.statements.specs.declared.token.Token.TheVariants.{Number, Mark, Pair}

-- a line
abbrev pub line_of : Line → TextLine
line_of l = record { bytes = l.bytes.now; number = l.number; ended = l.ended }

-- the lines that a cursor over a text has still to give
abbrev pub left_lines : Lines → List TextLine
left_lines l = numbered (l.given + 1) (left l.pieces)

-- what taking a line answers and leaves: the first of those to come, as the part of the text from the cursor on; or none, if none is to come
abbrev pub Given : Lines → Option Line → Lines → Type 0
Given f r g = YieldsFirstBy line_of left_lines f r g × IfSome r (λ l. l.bytes.now ≡ take (length l.bytes.now) (drop f.pieces.place f.pieces.text.now))

-- the pairs in use
abbrev pub pairs_of : Pairs → List Literal
pairs_of p = take p.count p.list

-- the part of a text that a token holds
abbrev pub part_of : Token → List ℕ
part_of (Number part) = part.now
part_of (Mark part) = part.now
part_of (Pair part) = part.now

-- the number, the mark or the pair that a token is, if it is of that form
abbrev pub number_in : ℕ → Token → Option ℕ
number_in limit (Number part) = number_up_to limit part.now
number_in limit (Mark part) = None
number_in limit (Pair part) = None

abbrev pub mark_in : Token → Option Bool
mark_in (Number part) = None
mark_in (Mark part) = mark_of part.now
mark_in (Pair part) = None

abbrev pub pair_in : Token → Option Literal
pair_in (Number part) = None
pair_in (Mark part) = None
pair_in (Pair part) = pair_of part.now

-- the fields that a cursor over a line has still to give, and the column of the first
abbrev pub remaining : Fields → List (List ℕ)
remaining f = left f.pieces

abbrev pub place : Fields → ℕ
place f = column f.pieces

-- a field handed on: the next one, as the part of its line that begins at its column, with the line's number and that column
pub record HandedOn (f : Fields) (p : Placed) : Type 0 where
  pub field : part_of p.token ≡ front (remaining f)
  pub part : part_of p.token ≡ take (length (part_of p.token)) (drop (p.column - 1) f.pieces.text.now)
  pub line : p.line ≡ f.line
  pub column : p.column ≡ place f

-- a field taken: the cursor goes on to the next
pub record Advanced (f g : Fields) : Type 0 where
  pub rest : remaining g ≡ drop 1 (remaining f)
  pub next : place g ≡ past (place f) (remaining f)
  pub line : g.line ≡ f.line
  pub text : g.pieces.text.now ≡ f.pieces.text.now

-- a statement
abbrev pub stated_of : Statement → Stated
stated_of (Decision d) = decides d
stated_of (Rule p) = rules p.kind (pairs_of p.pairs) p.target p.price

-- a result, its value seen through a function
abbrev pub on_ok : {X Y E : Type 0} → (X → Y) → Result X E → Result Y E
on_ok f (Ok x) = Ok (f x)
on_ok f (Err e) = Err e
