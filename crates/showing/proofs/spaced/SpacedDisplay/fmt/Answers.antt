use Rattle.std.proofs.Common.{ℕ, List, ◌∷◌, [], ◌++◌, take, sym, subst, ap, ◌∙◌, Option, Ok}
use Rattle.std.proofs.lemmas.List.{take_more, take_all}
use Rattle.std.specs.Fmt.{DisplaysOnOk, HasWritten}
use Rattle.std.specs.Option.{IfSome}
use Rattle.showing.specs.Texts.{each_after_a_space, spaced_text}
use Rattle.showing.proofs.Spacing.{both_written, displayed, displays, one_more}
use Rattle.showing.proofs.spaced.SpacedDisplay.fmt.Goals as goal

pub loop-item-preserved : goal.loop-item-preserved
loop-item-preserved g c = λ plain.
    let took = g.W.Write.write_str_gives in
    let text = g.T.Display.output in
    let rest = c.in-Some.rest.now in
    let k = c.loop-item.item-index in
    let x = c.item-item.result in
    let taken = take_more rest k x c.loop-item-test.true ∙ ap (λ y. take k rest ++ y ∷ []) (sym c.item-item.is) in
    subst (λ (o : Option (List ℕ)). IfSome o (λ bs. HasWritten took c.fmt.new.f bs c.write.new.self)) (sym (ap (each_after_a_space text) taken ∙ one_more text (take k rest) x))
    (both_written took _ _ _ _ _ (c.loop-item.invariant plain) (displayed took _ _ _ c.in_ok-write.ensures.writes))

pub returns-clause-writes : goal.returns-clause-writes
returns-clause-writes g c =
    let took = g.W.Write.write_str_gives in
    let text = g.T.Display.output in
    let rest = c.in-Some.rest.now in
    let through = ap (each_after_a_space text) (take_all c.loop-item.item-index rest c.loop-item-test.false) in
    subst (λ xs. DisplaysOnOk took c.args.f.now (Ok tt) (spaced_text text xs) c.loop-item.f) (sym c.in-Some.ensures.cases.0)
    (displays took _ _ _ (λ plain. both_written took _ _ _ _ _ (displayed took _ _ _ c.in_ok-fmt.ensures.writes plain)
    (λ now. subst (λ (o : Option (List ℕ)). IfSome o (λ bs. HasWritten took c.fmt.new.f bs c.loop-item.f)) through (c.loop-item.invariant now))))
