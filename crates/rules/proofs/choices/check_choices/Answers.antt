use Rattle.std.proofs.Common.{◌≡◌, ℕ, ◌-◌, List, length, take, filter, ap, ◌∙◌, subst, arith}
use Rattle.std.proofs.lemmas.List.{length-take, take_min}
use Rattle.rules.specs.Conditions.{from_bytes}
use Rattle.rules.specs.Plans.{on_at, rounds}
use Rattle.rules.specs.Searches.{Chooses}
use Rattle.rules.specs.declared.decision.Decision.{Decision}
use Rattle.sets.specs.Members.{members}
use Rattle.rules.proofs.Misfits.{first_same}
use Rattle.rules.proofs.choices.check_choices.Goals as goal

pub returns : goal.returns
returns g c =
    let ds = c.args.decisions.now in
    let bytes = c.args.plan.now in
    let rs = filter g.C.Counting.counted c.args.rows.now in
    let ds' = take (c.min.result - 0) ds in
    let bytes' = take (c.min-2.result - 0) bytes in
    let p = from_bytes bytes' in
    let chosen : Chooses ds' rs bytes' c.check_each.result =
    first_same ds' p (members c.active_decisions-active.result) (rounds (length ds') rs p (on_at ds')) (length ds')
    (λ d l. c.active_decisions-active.ensures d (omega (arith, length-take (c.min.result - 0) ds, c.min.ensures))) c.check_each.result c.check_each.ensures in
    let first : ds' ≡ take 64 ds = ap (λ k. take k ds) (omega (arith, c.min.ensures)) ∙ take_min 64 ds in
    let front : bytes' ≡ take 64 bytes = ap (λ k. take k bytes) (omega (arith, c.min-2.ensures)) ∙ take_min 64 bytes in
    subst (λ (xs : List ℕ). Chooses (take 64 ds) rs xs c.check_each.result) front (subst (λ (xs : List Decision). Chooses xs rs bytes' c.check_each.result) first chosen)
