-- What one line of a book does.
use Rattle.std.specs.Prelude.{Bool, ◌||◌, Ok, Result}
use Rattle.measure.specs.Meaning.{Meaning}
use Rattle.account.specs.Accounts.{Account}
use Rattle.statements.specs.Lines.{TextLine}
use Rattle.statements.specs.Statements.{read_line, then}
use Rattle.statements.specs.declared.fault.Fault.{Fault}
use Rattle.book.specs.Loads.{is_rule, obeyed}

-- a line read and carried out: whether a rule line has come, and the account after it
unfoldable pub line_step : {C : Type 0} → Meaning C → Bool → Account C → TextLine → Result (Bool × Account C) Fault
line_step m began a l = then (read_line began l) (λ s. then (obeyed m l.number a s) (λ b. Ok (began || is_rule s, b)))
