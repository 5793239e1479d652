use Rattle.std.proofs.lemmas.Grind.{common_steps}
use Rattle.std.proofs.Common.{◌≡◌, ℕ, ◌*◌, ◌%◌, length, subst, arith}
use Rattle.std.specs.List.{IsSplitAt}
use Rattle.engine.proofs.Framing.{cut}
use Rattle.engine.proofs.layout.layout_of.Goals as goal

pub returns-clause-value : goal.returns-clause-value
returns-clause-value c =
    let bytes = c.in_ok-count.behind.now in
    let front = c.in_ok-decisions.decisions.now in
    let back = c.in_ok-decisions.rules.now in
    let split = subst (λ (n : ℕ). IsSplitAt bytes (2 * n) front back) c.from.ensures c.in_ok-decisions.ensures.cases in
    let whole : length back % 16 ≡ 0 = grind (arith, common_steps) in
    rw (c.as_chunks.ensures.front, c.as_chunks-2.ensures.front) (cut c.args.book.now c.in_ok-count.count.now bytes front back c.in_ok-count.ensures.cases.0 split whole)
