use Rattle.std.proofs.Common.{rules, sym, refl}
use Rattle.std.proofs.lemmas.Result.{err_from_is_err_and}
use Rattle.account.specs.Calls.{add}
use Rattle.account.specs.Changes.{held}
use Rattle.rules.proofs.Grounds.{accepted_none, refused_some}
use Rattle.rules.specs.Judging.{row_refusal}
use Rattle.planner.specs.Planners.{account_of}
use Rattle.planner.proofs.Called.{refuses, rule_left, rule_refused}
use Rattle.planner.proofs.Reopened.{activate_added, forbid_added, price_added}
use Rattle.planner.specs.Books.{book_of}
use Rattle.planner.proofs.Shaped.{rule_shaped}
use Rattle.planner.proofs.planner.Planner.add.Goals as goal

pub returns-in_err-check_row : goal.returns-in_err-check_row
returns-in_err-check_row g c =
    let m = g.M.Measure.meaning in
    let a = account_of c.args.self.now in
    let row = c.row-row.result in
    let ds = c.decisions.result.now in
    let p = err_from_is_err_and c.from_residual.result c.from_residual.ensures.1 in
    let why = refused_some (row_refusal ds row) _ (sym c.in_err-check_row.ensures) in
    let (told, left) = refuses m a (add c.args.rule.now) _ (rule_refused m a c.args.rule.now row ds (held a.book row.kind) c.row-row.ensures c.decisions.ensures.value refl _ why) in
    record { value = rw (p.1, p.2) told; after = left }

pub invariant_of-add : goal.invariant_of-add
invariant_of-add g c =
    let none = accepted_none (row_refusal c.decisions.result.now c.row-row.result) _ (sym c.in_ok-check_row.ensures) in
    record { shape = rule_shaped c.args.rule.now c.row-row.result c.decisions.result.now c.row-row.ensures c.decisions.ensures.few none }

pub add-requires : goal.add-requires
add-requires g c = search rules

pub returns-in-Forbid : goal.returns-in-Forbid
returns-in-Forbid g c =
    let m = g.M.Measure.meaning in
    let a = account_of c.args.self.now in
    let row = c.row-row.result in
    let ds = c.decisions.result.now in
    let x = account_of c.reopen_forbidding.new.self in
    let changed = forbid_added m a x (book_of c.add.new.self) row row.kind c.best_meets-met.result c.in-Forbid.is c.add.ensures c.best_meets-met.ensures c.reopen_forbidding.ensures in
    let (told, left) =
    rule_left m a c.args.rule.now row ds (held a.book row.kind) c.row-row.ensures c.decisions.ensures.value refl x
    (accepted_none (row_refusal ds row) _ (sym c.in_ok-check_row.ensures)) (search rules) changed in
    record { value = told; after = left }

pub returns-in-Activate : goal.returns-in-Activate
returns-in-Activate g c =
    let m = g.M.Measure.meaning in
    let a = account_of c.args.self.now in
    let row = c.row-row.result in
    let ds = c.decisions.result.now in
    let x = account_of c.reopen_rejudged.new.self in
    let changed = activate_added m a x (book_of c.add.new.self) row row.kind c.in-Activate.is c.add.ensures c.reopen_rejudged.ensures in
    let (told, left) =
    rule_left m a c.args.rule.now row ds (held a.book row.kind) c.row-row.ensures c.decisions.ensures.value refl x
    (accepted_none (row_refusal ds row) _ (sym c.in_ok-check_row.ensures)) (search rules) changed in
    record { value = told; after = left }

pub returns-in-Price : goal.returns-in-Price
returns-in-Price g c =
    let m = g.M.Measure.meaning in
    let a = account_of c.args.self.now in
    let row = c.row-row.result in
    let ds = c.decisions.result.now in
    let x = account_of c.reopen_repriced.new.self in
    let changed = price_added m a x (book_of c.add.new.self) row row.kind c.best_meets-met.result c.in-Price.is c.add.ensures c.best_meets-met.ensures c.reopen_repriced.ensures in
    let (told, left) =
    rule_left m a c.args.rule.now row ds (held a.book row.kind) c.row-row.ensures c.decisions.ensures.value refl x
    (accepted_none (row_refusal ds row) _ (sym c.in_ok-check_row.ensures)) (search rules) changed in
    record { value = told; after = left }
