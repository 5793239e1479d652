-- Small books of bytes, by computing.
use Rattle.std.proofs.Common.{refl}
use Rattle.account.specs.Changes.{added}
use Rattle.account.specs.Steps.{conclude, extend, kept, retreat, step, test, tested}
use Rattle.engine.specs.Answered.{read_records}
use Rattle.engine.specs.Shown.{BooksShown}

pub books_shown : BooksShown
unfolding read_records added step test tested kept retreat extend conclude
books_shown =
    record {
      planned = refl;
      unplanned = refl;
      hopeless = refl;
      nothing = refl;
      too_few = refl;
      too_many = refl;
      mark = refl;
      kind = refl;
      pairs = refl;
      size = refl;
      decisions = refl;
      no_pair = refl;
      unordered = refl;
      decision = refl;
      value = refl;
      most_cents = refl;
      cent_more = refl;
      budget = refl;
      short = refl;
      rule_first = refl;
      record_first = refl;
      size_first = refl;
      book_first = refl;
      budget_first = refl;
    }
