use Rattle.std.proofs.Common.{ltb, rules}
use Rattle.std.proofs.lemmas.List.Sorted.{answers_always}
use Rattle.rules.proofs.Ascending.{ascends_by_neighbours}
use Rattle.rules.proofs.compose.ascend.Goals as goal

pub returns : goal.returns
returns c = ascends_by_neighbours c.args.pairs.now c.is_sorted_by.result (c.is_sorted_by.ensures.cases (λ a b. ltb a.decision b.decision) (answers_always _ _ _ (λ f a r f' h. search rules)))
