-- The exclusion in each cell of the tables, and after a write.
use Rattle.std.proofs.lemmas.Grind.{common_steps}
use Rattle.std.proofs.Common.{◌≡◌, ℕ, ◌<◌, ◌≤◌, Bool, true, false, cond, ◌&&◌, eqb, ltb, ◌⊎◌, List, length, get_or, set, replicate, Some, None, refl, ap, ◌∙◌, inl, inr, arith}
use mathlib.Core.Path.{fun_ext}
use Rattle.std.proofs.lemmas.List.{get_or-replicate}
use Rattle.std.proofs.lemmas.Bool.{and_left, and_right, cases_lt, le-ltb, lt-ltb}
use Rattle.rules.specs.Refusals.{when}
use Rattle.sets.specs.Members.{values}
use Rattle.sets.specs.declared.value_set.ValueSet.{ValueSet}
use Rattle.tables.specs.Excluded.{cell_of, exclusion_by, exclusions_of, is_excluded, no_value, stored_at}
use Rattle.tables.specs.declared.exclusions.Exclusions.{Exclusions}
use Rattle.tables.proofs.Marks.{value_known}

-- two answers that come on the same test, and are the same where it holds
same_when : {X : Type 0} (a b : Bool) (x y : X) → a ≡ b → (b ≡ true → x ≡ y) → when a x ≡ when b y
same_when {X} a b x y e same = grind (arith, common_steps)

-- a value that is in no set is not excluded
pub not_excluded : (x : Exclusions) (d v : ℕ) → is_excluded x d v ≡ false → exclusions_of x d v ≡ None
unfolding exclusions_of
not_excluded x d v e = ap (λ (b : Bool). when b (stored_at x d v)) (and_right (ltb d 64) (is_excluded x d v) e)

-- nor is one of a decision from 64 on
pub past_excluded : (x : Exclusions) (d v : ℕ) → 64 ≤ d → exclusions_of x d v ≡ None
unfolding exclusions_of
past_excluded x d v h = ap (λ (b : Bool). when b (stored_at x d v)) (and_left (ltb d 64) (is_excluded x d v) (le-ltb d 64 h))

-- the exclusion of a value of a decision below 64
pub exclusion_at : (x : Exclusions) (d v : ℕ) → d < 64 → exclusions_of x d v ≡ when (is_excluded x d v) (stored_at x d v)
unfolding exclusions_of
exclusion_at x d v h = ap (λ (b : Bool). when (b && is_excluded x d v) (stored_at x d v)) (lt-ltb d 64 h)

-- where every set is one that has no value
pub none_excluded : (x : Exclusions) (s : ValueSet) → x.excluded ≡ replicate 64 s → values s ≡ (λ v. false) → exclusions_of x ≡ (λ d v. None)
none_excluded x s e none = fun_ext (λ (d : ℕ). fun_ext (λ (v : ℕ). at d v (cases_lt d 64)))
  where
    at : (d v : ℕ) → (d < 64) ⊎ (64 ≤ d) → exclusions_of x d v ≡ None
    at d v (inr h) = past_excluded x d v h
    at d v (inl h) =
        not_excluded x d v
        (ap (λ (xs : List ValueSet). values (get_or xs d no_value) v) e ∙ ap (λ (t : ValueSet). values t v) (get_or-replicate 64 d s no_value h) ∙ ap (λ (f : ℕ → Bool). f v) none)

-- a list of sets in which one value of one was marked
marked_set : (xs : List ValueSet) (d v : ℕ) (s : ValueSet) (t : Bool) → d < length xs → values s ≡ (λ w. cond (eqb w v) t (values (get_or xs d no_value) w))
    → (y w : ℕ) → values (get_or (set xs d s) y no_value) w ≡ cond (eqb y d && eqb w v) t (values (get_or xs y no_value) w)
marked_set xs d v s t h e y w = grind (arith, common_steps)

-- one exclusion more: its value in the set of its decision, its mark, and its reason in its cell
module _ (x : Exclusions) (d v : ℕ) (s m : ValueSet) (bits : ℕ) (rests : Bool)
    (known : d < 64) (low : 1 ≤ v) (high : v ≤ 16)
    (in-excluded : d < length x.excluded) (in-resting : d < length x.resting) (in-reasons : cell_of d v < length x.reasons)
    (es : values s ≡ (λ w. cond (eqb w v) true (is_excluded x d w)))
    (em : values m ≡ (λ w. cond (eqb w v) rests (values (get_or x.resting d no_value) w))) where
  abbrev after : Exclusions
  after = record { excluded = set x.excluded d s; resting = set x.resting d m; reasons = set x.reasons (cell_of d v) bits }

  at : (y w : ℕ) (b : Bool) → (eqb y d && eqb w v) ≡ b → exclusions_of after y w ≡ cond b (Some (exclusion_by bits rests)) (exclusions_of x y w)
  unfolding exclusions_of
  at y w b e = grind (arith, common_steps, marked_set, same_when, value_known)

  pub put_is : exclusions_of (record { excluded = set x.excluded d s; resting = set x.resting d m; reasons = set x.reasons (cell_of d v) bits })
      ≡ (λ y w. cond (eqb y d && eqb w v) (Some (exclusion_by bits rests)) (exclusions_of x y w))
  put_is = fun_ext (λ (y : ℕ). fun_ext (λ (w : ℕ). at y w (eqb y d && eqb w v) refl))
