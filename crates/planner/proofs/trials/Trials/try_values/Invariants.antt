use Rattle.std.proofs.Common.{◌≡◌, ◌+◌, ◌-◌, ◌≤◌, length}
use Rattle.rules.specs.Conditions.{from_bytes}
use Rattle.tables.specs.Excluded.{exclusions_of}
use Rattle.planner.specs.Books.{book_of}
use Rattle.planner.specs.Trials.{tried_to}
use Rattle.planner.proofs.Trying.{But}
use Rattle.planner.proofs.trials.Trials.try_values.Given as goal

abbrev pub invariant-loop-v : goal.invariant-loop-v
invariant-loop-v g l =
    record {
      most : l.v ≤ l.self.domain.size + 1;
      wide : length l.trial ≡ 64;
      but : But l.trial l.plan l.self.domain.decision;
      tried : exclusions_of l.exclusions ≡ tried_to g.M.Measure.meaning (book_of l.self.book.now) l.self.best (from_bytes l.plan) (exclusions_of l.initial.exclusions) l.self.domain.decision (l.v - 1);
    }
