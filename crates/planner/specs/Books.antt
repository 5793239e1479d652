-- The book that the tables of a planner stand for.
use Rattle.std.specs.Prelude.{◌≡◌, ◌<◌, List, [], length}
use Rattle.rules.specs.Plans.{Book as Rulebook, size_at}
use Rattle.rules.specs.declared.decision.Decision.{Decision}
use Rattle.tables.specs.Tables.{table_rows}
use Rattle.tables.specs.declared.domain.Domain.{Domain}
use Rattle.planner.specs.declared.book.Book.{Book}

-- the decisions in use, and the rules of each kind
abbrev pub book_of : Book → Rulebook
book_of b =
    record {
      decisions = b.decisions.items;
      forbids = table_rows b.forbids;
      activates = table_rows b.activates;
      prices = table_rows b.prices;
    }

-- a book of decisions, with no rule
abbrev pub over_decisions : List Decision → Rulebook
over_decisions ds = record { decisions = ds; forbids = []; activates = []; prices = [] }

-- this is what a decision of a book may take
abbrev pub IsDomain : Rulebook → Domain → Type 0
IsDomain b x = (x.size ≡ size_at b.decisions x.decision) × (x.decision < length b.decisions)
