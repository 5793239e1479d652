use Rattle.std.proofs.Common.{◌≡◌, ℕ, ◌+◌, ◌<◌, List, length, get_or, drop, Some, Ok, Err, Option, sym, ap, ◌∙◌}
use Rattle.std.specs.Option.{option_or}
use Rattle.std.proofs.lemmas.List.{at_drop_more}
use Rattle.std.proofs.lemmas.Result.{err_from_is_err_and}
use Rattle.rules.specs.Judging.{row_refusal, rows_refusal}
use Rattle.rules.specs.Refusals.{as_result}
use Rattle.rules.specs.declared.decision.Decision.{Decision}
use Rattle.rules.specs.declared.refusal.Refusal.{Refusal}
use Rattle.rules.specs.declared.row.Row.{Row}
use Rattle.rules.proofs.Grounds.{accepted_none, refused_some}
use Rattle.rules.proofs.checks.check_rows.Goals as goal

module _ (ds : List Decision) (rs : List Row) (i : ℕ) (d : Row) (l : i < length rs) where
  next : rows_refusal ds (drop i rs) ≡ option_or (row_refusal ds (get_or rs i d)) (rows_refusal ds (drop (i + 1) rs))
  next = at_drop_more (rows_refusal ds) rs i d l

  refused-here : (e : Refusal) → as_result (row_refusal ds (get_or rs i d)) ≡ Err e → rows_refusal ds (drop i rs) ≡ Some e
  refused-here e h = next ∙ ap (λ (o : Option Refusal). option_or o (rows_refusal ds (drop (i + 1) rs))) (refused_some (row_refusal ds (get_or rs i d)) e h)

  accepted-here : (u : Unit {0}) → as_result (row_refusal ds (get_or rs i d)) ≡ Ok u → rows_refusal ds (drop i rs) ≡ rows_refusal ds (drop (i + 1) rs)
  accepted-here u h = next ∙ ap (λ (o : Option Refusal). option_or o (rows_refusal ds (drop (i + 1) rs))) (accepted_none (row_refusal ds (get_or rs i d)) u h)

pub returns-in_err-check_row : goal.returns-in_err-check_row
returns-in_err-check_row c =
    let p = err_from_is_err_and c.from_residual.result c.from_residual.ensures.1 in
    let h = refused-here c.args.decisions.now c.args.rows.now c.loop-row.row-index _ c.loop-row-test.true _ (sym c.in_err-check_row.ensures) in
    rw (p.1, p.2) (sym (ap as_result (c.loop-row.invariant ∙ h)))

pub loop-row-preserved : goal.loop-row-preserved
loop-row-preserved c =
    c.loop-row.invariant
    ∙ accepted-here c.args.decisions.now c.args.rows.now c.loop-row.row-index _ c.loop-row-test.true _ (sym c.in_ok-check_row.ensures)
