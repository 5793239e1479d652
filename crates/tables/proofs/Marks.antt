-- Sets with one value marked.
use Rattle.std.proofs.lemmas.Grind.{common_steps}
use Rattle.std.proofs.Common.{◌≡◌, ℕ, zero, suc, ◌≤◌, true, cond, ◌&&◌, ◌||◌, eqb, leb, inl, inr, arith}
use Rattle.std.proofs.lemmas.Bool.{both_ways, cases_lt}
use Rattle.sets.proofs.Values.{no_value_above, no_value_zero}
use Rattle.sets.specs.Members.{values}
use Rattle.sets.specs.declared.value_set.ValueSet.{ValueSet}

-- a value put in
pub marked_in : (s r : ValueSet) (v : ℕ) → 1 ≤ v → v ≤ 16 → values r ≡ (λ x. values s x || (eqb x v && (leb 1 v && leb v 16))) → values r ≡ (λ x. cond (eqb x v) true (values s x))
marked_in s r v low high e = grind (arith, common_steps)

-- only 1 to 16 can be in a set of values
pub value_known : (s : ValueSet) (v : ℕ) → values s v ≡ true → (1 ≤ v) × (v ≤ 16)
value_known s zero e = absurd (both_ways (values s 0) (no_value_zero s) e)
value_known s (suc v) e =
    elim (cases_lt 16 (suc v)) [ inl h ↦ absurd (both_ways (values s (suc v)) (no_value_above s (suc v) h) e) | inr h ↦ (omega arith, h) ]
