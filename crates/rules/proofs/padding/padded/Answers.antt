use Rattle.std.proofs.Common.{◌-◌, ◌∙◌, ◌++◌, length, replicate, take, get_or, sym, arith, rules}
use Rattle.std.proofs.lemmas.List.{ext_get_or, length-append, length-replicate, length-take}
use Rattle.rules.proofs.Tables.{filled_up, made_each}
use Rattle.rules.proofs.padding.padded.Goals as goal

pub returns : goal.returns
returns g c =
    let n = g.row.N in
    let xs = c.args.items.now in
    let b = c.args.blank in
    ext_get_or b c.from_fn.result (take n xs ++ replicate (n - length xs) b) (omega (arith, c.from_fn.ensures.items.long, length-append (take n xs) (replicate (n - length xs) b), length-take n xs, length-replicate (n - length xs) b))
    (λ k l. made_each _ (λ i. get_or xs i b) _ c.from_fn.result b (λ i y q called. (search rules, search rules)) n c.from_fn.ensures.items k (omega (arith, c.from_fn.ensures.items.long))
    ∙ sym (filled_up n xs b k (omega (arith, c.from_fn.ensures.items.long))))
