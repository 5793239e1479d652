use Rattle.std.proofs.lemmas.Grind.{common_steps}
use Rattle.std.proofs.Common.{ap, ◌∙◌, arith}
use Rattle.rules.specs.Conditions.{from_bytes}
use Rattle.scans.proofs.Enabling.{found_has, enabled_by_first, named_by, named_from}
use Rattle.scans.proofs.activates.enabler.Goals as goal

pub map_or-requires : goal.map_or-requires
map_or-requires c x e = grind (arith, common_steps, found_has)

pub returns : goal.returns
returns c =
    let p = from_bytes c.args.plan.now in
    named_from (λ y. y.now) c.first_activating.result c.map_or.result c.empty.result c.empty.ensures c.map_or.ensures
    ∙ ap named_by c.first_activating.ensures ∙ enabled_by_first c.args.rows.now p c.args.decision
