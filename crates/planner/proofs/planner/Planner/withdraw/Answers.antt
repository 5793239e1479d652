use Rattle.std.proofs.lemmas.Grind.{common_steps}
use Rattle.std.proofs.Common.{rules, arith}
use Rattle.planner.specs.Books.{book_of}
use Rattle.planner.specs.Planners.{account_of}
use Rattle.planner.proofs.Called.{place_left}
use Rattle.planner.proofs.Reopened.{activate_withdrawn, forbid_withdrawn, price_withdrawn}
use Rattle.planner.proofs.planner.Planner.withdraw.Goals as goal

pub returns-in-Forbid : goal.returns-in-Forbid
returns-in-Forbid g c = grind (arith, common_steps, forbid_withdrawn, place_left)

pub returns-in-Activate : goal.returns-in-Activate
returns-in-Activate g c = grind (arith, common_steps, activate_withdrawn, place_left)

pub returns-in-Price : goal.returns-in-Price
returns-in-Price g c =
    let m = g.M.Measure.meaning in
    let a = account_of c.args.self.now in
    let x = account_of c.reopen_repriced.new.self in
    let changed = price_withdrawn m a x (book_of c.remove.new.self) c.args.kind c.args.place c.in-Price.is c.remove.ensures c.reopen_repriced.ensures in
    let (told, left) = place_left m a c.args.kind c.args.place x (search rules) changed in
    record { value = told; after = left }
