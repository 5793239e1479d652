use Rattle.std.proofs.Common.{length, Ok, Err, sym, ◌∙◌, arith}
use Rattle.std.proofs.lemmas.Result.{err_from_is_err_and}
use Rattle.std.proofs.lemmas.Iterator.Adapters.{position_from-zero}
use Rattle.rules.proofs.ByKind.{activates, forbids, prices, paid_is_cost}
use Rattle.rules.proofs.Misfits.{chosen_whole}
use Rattle.rules.proofs.Verdicts.{accepted_few, found_misfit, found_forbidden, found_nothing, bytes_idle}
use Rattle.rules.specs.Conditions.{from_bytes, met}
use Rattle.rules.specs.Plans.{cost}
use Rattle.rules.proofs.judging.verdict.Goals as goal

pub returns-in_err-check_choices : goal.returns-in_err-check_choices
returns-in_err-check_choices g c =
    let ds = c.args.decisions.now in
    let rs = c.args.rows.now in
    let bytes = c.args.plan.now in
    let few = accepted_few ds c.requires.accepted in
    let e = err_from_is_err_and c.from_residual.result c.from_residual.ensures.1 in
    let x = c.in_err-check_choices.field-0.0 in
    rw (e.1, e.2)
    (found_misfit ds rs (from_bytes bytes) c.requires.accepted c.requires.known x
    (chosen_whole ds (activates rs) bytes (Err x) few (omega (arith, few, c.requires.exact)) c.in_err-check_choices.ensures))

pub returns-in-Some : goal.returns-in-Some
returns-in-Some g c =
    let ds = c.args.decisions.now in
    let rs = c.args.rows.now in
    let bytes = c.args.plan.now in
    let few = accepted_few ds c.requires.accepted in
    found_forbidden ds rs (from_bytes bytes) c.requires.accepted c.requires.known c.in-Some.place
    (chosen_whole ds (activates rs) bytes (Ok tt) few (omega (arith, few, c.requires.exact)) c.in_ok-check_choices.ensures) (sym (c.in-Some.ensures ∙ position_from-zero (met (from_bytes bytes)) (forbids rs)))

pub returns : goal.returns
returns g c =
    let ds = c.args.decisions.now in
    let rs = c.args.rows.now in
    let bytes = c.args.plan.now in
    let few = accepted_few ds c.requires.accepted in
    let p = from_bytes bytes in
    let m = g.M.Measure.meaning in
    let laws = g.met.M.Measure in (
      found_nothing ds rs p c.requires.accepted c.requires.known (bytes_idle bytes (length ds) c.requires.exact)
          (chosen_whole ds (activates rs) bytes (Ok tt) few (omega (arith, few, c.requires.exact)) c.in_ok-check_choices.ensures) (sym (c.in_default.ensures ∙ position_from-zero (met p) (forbids rs))),
      c.cost_of.ensures ∙ paid_is_cost m laws.joining_is_associative laws.joining_neutral_alters_nothing p rs m.neutral
          ∙ laws.joining_is_commutative m.neutral (cost m (prices rs) p) ∙ laws.joining_neutral_alters_nothing (cost m (prices rs) p),
    )
