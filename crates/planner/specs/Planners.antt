-- The account that a planner stands for.
use Rattle.std.specs.Prelude.{Bool, true, false}
use Rattle.std.specs.Option.{option_map}
use Rattle.account.specs.Accounts.{Account}
use Rattle.account.specs.declared.state.State.{State}
use Rattle.account.specs.declared.state.State.TheVariants.{Open, Settled}
use Rattle.rules.specs.Conditions.{from_bytes}
use Rattle.tables.specs.Excluded.{exclusions_of}
use Rattle.tables.specs.Trails.{trail_of}
use Rattle.planner.specs.Bests.{best_of}
use Rattle.planner.specs.Books.{book_of}
use Rattle.planner.specs.declared.planner.Planner.{Planner}

-- the account of a planner
abbrev pub account_of : {M : Type 0} → Planner M → Account M
account_of p =
    record {
      book = book_of p.book;
      ranks = from_bytes p.ranks;
      trail = trail_of p.trail;
      exclusions = exclusions_of p.exclusions;
      best = option_map best_of p.best;
      state = p.state;
    }

-- whether a state is open
abbrev pub is_open : State → Bool
is_open Open = true
is_open Settled = false
