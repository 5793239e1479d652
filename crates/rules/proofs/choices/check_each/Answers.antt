use Rattle.std.proofs.Common.{◌≡◌, ℕ, Bool, List, ◌∷◌, drop, sym, ap, ◌∙◌, below_more, arith}
use Rattle.rules.specs.Conditions.{Plan, from_bytes}
use Rattle.rules.specs.Plans.{Set, absent, size_at}
use Rattle.rules.specs.declared.decision.Decision.{Decision}
use Rattle.rules.specs.Searches.{misfit, misfit_at}
use Rattle.sets.specs.Members.{members}
use Rattle.rules.proofs.Grounds.{accepted_none}
use Rattle.rules.proofs.Loops.{at_front}
use Rattle.rules.proofs.choices.check_each.Goals as goal

-- what the check of the decision at a place is of
here : (ds : List Decision) (s : Set) (p : Plan) (i n v : ℕ) (a : Bool) (d : Decision) (rest : List Decision) → d ∷ rest ≡ drop i ds → n ≡ i → a ≡ s n → v ≡ p n → misfit_at ds s p i ≡ misfit n d.size a v
here ds s p i n v a d rest left same active value = let size : size_at ds i ≡ d.size = ap (λ (x : Decision). x.size) ((at_front ds i d rest (sym left)).1 absent) in cc

pub loop-number-preserved : goal.loop-number-preserved
loop-number-preserved c =
    let ds = c.args.decisions.now in
    let (r, s) = c.in-Some.ensures.steps in
    let left = sym s ∙ c.loop-number.invariant.left in
    let now =
    here ds (members c.args.active) (from_bytes c.args.plan.now) _ _ _ _ _ _ left r.1.1 c.has.ensures c.value_of.ensures ∙ accepted_none _ _ (sym c.in_ok-check_choice.ensures) in
    record {
      end = cc;
      left = sym (at_front ds _ _ _ (sym left)).2 ∙ ap (λ (n : ℕ). drop n ds) (sym r.1.2);
      before = λ k l. below_more _ _ c.loop-number.invariant.before now k (omega arith);
    }
