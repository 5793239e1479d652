use Rattle.std.proofs.Common.{Bool, cond, ap, arith, rules}
use Rattle.rules.specs.Conditions.{from_bytes}
use Rattle.rules.specs.Plans.{within}
use Rattle.rules.proofs.Tables.{filled_all, made_each}
use Rattle.sets.proofs.Decisions.{no_member}
use Rattle.sets.specs.Members.{members}
use Rattle.rules.proofs.active.choices.Goals as goal

pub returns : goal.returns
returns c =
    let p = from_bytes c.args.plan.now in
    let s = members c.args.set in
    filled_all c.from_fn.result (within s p) 0 64 (omega arith)
    (c.from_fn.ensures.items.long, made_each _ (within s p) _ c.from_fn.result 0 (λ i y q called. (search rules, search rules)) 64 c.from_fn.ensures.items)
    (λ k h. ap (λ (b : Bool). cond b (p k) 0) (no_member c.args.set k h))
