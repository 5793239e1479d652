-- The first row that enables a decision.
use Rattle.std.proofs.lemmas.Grind.{common_steps}
use Rattle.std.proofs.Common.{◌≡◌, ℕ, Bool, true, false, cond, ◌&&◌, eqb, List, [], ◌∷◌, find, Some, None, Option, MatchOption, refl, ap, ◌∙◌, subst, arith}
use Rattle.std.specs.List.{AllByRecursion}
use Rattle.std.specs.Option.{option_map}
use Rattle.account.specs.Steps.{enabled_by}
use Rattle.rules.specs.Conditions.{Plan, condition, met, names}
use Rattle.rules.specs.Plans.{Set}
use Rattle.rules.specs.declared.row.Row.{Row}
use Rattle.sets.specs.Members.{members}
use Rattle.sets.specs.declared.decision_set.DecisionSet.{DecisionSet}

-- what holds of each row holds of the one that is found
pub found_has : (P : Row → Type 0) (t : Row → Bool) (rs : List Row) (r : Row) → AllByRecursion P rs → find t rs ≡ Some r → P r
found_has P t [] r all e = cc
found_has P t (x ∷ xs) r all e = go (t x) all.0 e (found_has P t xs r all.1)
  where
    go : (b : Bool) → P x → cond b (Some x) (find t xs) ≡ Some r → (find t xs ≡ Some r → P r) → P r
    go true here e later = let same : x ≡ r = cc in subst P same here
    go false here e later = later e

-- what the condition of a row names, if there is one
abbrev pub named_by : Option Row → Set
named_by None = λ x. false
named_by (Some r) = names (condition r)

pub enabled_by_first : (rs : List Row) (p : Plan) (d : ℕ) → named_by (find (λ r. eqb d r.target && met p r) rs) ≡ enabled_by rs p d
enabled_by_first [] p d = refl
enabled_by_first (r ∷ rs) p d = grind (arith, common_steps, enabled_by_first rs p d)

-- a set that is read off what was found
pub named_from : {X : Type 0} (f : X → Row) (o : Option X) (s e : DecisionSet) → members e ≡ (λ x. false) → MatchOption o (s ≡ e) (λ x. members s ≡ names (condition (f x))) → members s ≡ named_by (option_map f o)
named_from f None s e none h = ap members h ∙ none
named_from f (Some x) s e none h = h
