-- What a book is after one of its tables was lent and given back.
use Rattle.std.specs.Borrow.{Fml, Lends, MutBor}
use Rattle.rules.specs.declared.row.Kind.{Kind}
use Rattle.rules.specs.declared.row.Kind.TheVariants.{Forbid, Activate, Price}
use Rattle.tables.specs.contracts.rule_table.RuleTable.{the_row as table_row}
use Rattle.tables.specs.declared.rule_table.RuleTable.{RuleTable}
use Rattle.planner.specs.contracts.book.Book.{the_row}
use Rattle.planner.specs.declared.book.Book.{Book}

-- a book with another table of one kind
abbrev pub with_table : Book → Kind → RuleTable → Book
with_table b Forbid t = record b { forbids = t }
with_table b Activate t = record b { activates = t }
with_table b Price t = record b { prices = t }

-- a book ends with the table of a kind as it was left
abbrev pub LendsTable : MutBor Book → Kind → MutBor RuleTable → Fml
LendsTable b k r = Lends the_row table_row b r (with_table b.now k)
