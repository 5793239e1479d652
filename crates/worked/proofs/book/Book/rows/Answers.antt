use Rattle.std.proofs.Common.{rules, ◌≡◌, ◌<◌, length, sym, refl, ◌∙◌, arith}
use Rattle.std.proofs.lemmas.List.{ext_get_or, length-map, get_or-map}
use Rattle.rules.specs.Compose.{free, new_rule}
use Rattle.rules.specs.declared.row.Kind.TheVariants.{Forbid}
use Rattle.rules.specs.declared.rule.Rule.{Rule}
use Rattle.account.specs.Worked.{pair, ruled}
use Rattle.worked.proofs.book.Book.rows.Goals as goal

pub returns : goal.returns
returns c =
    let d : Rule = ruled Forbid (pair 0 1) 0 free refl in
    let long : length c.args.self.now.rules ≡ 12 = search rules in
    ext_get_or new_rule _ _ (c.map.ensures.items.long ∙ sym (length-map _ _ ∙ long))
    (λ i h. let within : i < 12 = omega (arith, h, c.map.ensures.items.long) in
    let called = c.map.ensures.items.at i d new_rule within in
    search rules ∙ sym (get_or-map (λ (r : Rule). r.row) c.args.self.now.rules i d new_rule (omega (arith, within, long))))
