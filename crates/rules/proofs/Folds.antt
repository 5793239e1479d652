-- What a fold over an iterator gives.
use Rattle.std.proofs.lemmas.Grind.{common_steps}
use Rattle.std.proofs.Common.{◌≡◌, ℕ, false, ◌&&◌, ◌||◌, eqb, ltb, List, [], ◌∷◌, ◌++◌, Option, arith}
use Rattle.std.proofs.lemmas.Fn.{fold_over}
use Rattle.std.proofs.lemmas.Iterator.{YieldsList}
use Rattle.std.specs.Fn.{Called}
use Rattle.std.specs.Iterator.{Drains}
use Rattle.std.specs.List.{FoldsTo, list_any}
use denote.Param.Members.{Mut}
use Rattle.rules.specs.Plans.{Set}
use Rattle.sets.specs.Members.{members}
use Rattle.sets.specs.declared.decision_set.DecisionSet.{DecisionSet}

-- a fact J of the items so far and the result so far, which each call keeps
pub kept_by_fold : {S A B F C : Type 0} {steps : S → Option A → S → Type 0} {v : A → B} {g : Mut F (C × (A × Unit {0})) C} {f : F} {s : S} {a r : C}
    → (xs : List A) × (f' : F) × Drains steps s xs × FoldsTo {P = F × C} (λ p x q. Called g p.0 (p.1, (x, tt)) q.1 q.0) (f, a) xs (f', r)
    → (all : List B) → YieldsList steps v s all → (J : List B → C → Type 0) → J [] a
    → ((ys : List B) (b : C) (x : A) (c : C) (f' : F) → J ys b → Called g f (b, (x, tt)) c f' → J (ys ++ v x ∷ []) c × (f' ≡ f)) → J all r
kept_by_fold {S} {A} {B} {F} {C} {steps} {v} {g} {f} {s} {a} {r} ran all chain J start step = fold_over steps v g J f step s all a r chain.runs start ran

-- the decisions below 64 that are those of some items
abbrev pub gathered : {X : Type 0} → (X → ℕ) → List X → Set
gathered of xs d = list_any (λ x. eqb d (of x) && ltb (of x) 64) xs

-- a set that each call gives the decision of one item more
pub gathered_by_fold : {S A B F : Type 0} {steps : S → Option A → S → Type 0} {v : A → B} {g : Mut F (DecisionSet × (A × Unit {0})) DecisionSet} {f : F} {s : S} {a r : DecisionSet} {all : List B}
    → (xs : List A) × (f' : F) × Drains steps s xs × FoldsTo {P = F × DecisionSet} (λ p x q. Called g p.0 (p.1, (x, tt)) q.1 q.0) (f, a) xs (f', r)
    → YieldsList steps v s all → (of : B → ℕ) → members a ≡ (λ d. false)
    → ((b : DecisionSet) (x : A) (c : DecisionSet) (f' : F) → Called g f (b, (x, tt)) c f' → (members c ≡ (λ d. members b d || (eqb d (of (v x)) && ltb (of (v x)) 64))) × (f' ≡ f))
    → members r ≡ gathered of all
gathered_by_fold {v = v} ran chain of none one =
    kept_by_fold ran _ chain (λ ys b. members b ≡ gathered of ys) none (λ ys b x c f' before call. let o = one b x c f' call in (more ys (v x) (members b) (members c) before o.0, o.1))
  where
    more : (ys : List _) (y : _) (s after : Set) → s ≡ gathered of ys → after ≡ (λ d. s d || (eqb d (of y) && ltb (of y) 64)) → after ≡ gathered of (ys ++ y ∷ [])
    more ys y s after before new = grind (arith, common_steps)
