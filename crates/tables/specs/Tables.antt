-- The rows that a table holds.
use Rattle.std.specs.Prelude.{List, take}
use Rattle.rules.specs.declared.row.Row.{Row}
use Rattle.tables.specs.declared.rule_table.RuleTable.{RuleTable}

-- the rows in use, in place order
abbrev pub table_rows : RuleTable → List Row
table_rows t = take t.count t.rows
