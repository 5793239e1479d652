-- The trail that a value of the type stands for.
use Rattle.std.specs.Prelude.{List}
use Rattle.account.specs.Accounts.{Entry as Choice}
use Rattle.tables.specs.Entries.{newest_first}
use Rattle.tables.specs.declared.trail.Trail.{Trail}

-- newest first
abbrev pub trail_of : Trail → List Choice
trail_of t = newest_first t.entries.items
