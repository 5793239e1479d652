-- How a plan mistreats decisions, by a set of active ones.
use Rattle.std.proofs.lemmas.Grind.{common_steps}
use Rattle.std.proofs.Common.{◌≡◌, ℕ, zero, suc, ◌<◌, ◌≤◌, Bool, true, false, ◌&&◌, ltb, leb, List, length, take, is_ok, Some, None, Ok, Err, Result, sym, ap, ◌∙◌, subst, ⊎_elim, take_all, arith}
use mathlib.Core.Bool.{beq}
use Rattle.std.proofs.lemmas.Bool.{and_left, and_right, cases_eq}
use Rattle.rules.specs.Conditions.{Plan}
use Rattle.rules.specs.Plans.{Book, Set, active, all_below, fits, size_at}
use Rattle.rules.specs.Searches.{Chooses, FirstMisfit, misfit, misfit_at}
use Rattle.rules.specs.declared.decision.Decision.{Decision}
use Rattle.rules.specs.declared.row.Row.{Row}
use Rattle.rules.specs.declared.verdict.Breach.{Breach}
use Rattle.rules.proofs.Lawfulness.{below_all}

-- where there are at most 64 decisions and bytes, none is left out
pub chosen_whole : (ds : List Decision) (rs : List Row) (bytes : List ℕ) (r : Result (Unit {0}) Breach) → length ds ≤ 64 → length bytes ≤ 64 → Chooses (take 64 ds) rs (take 64 bytes) r → Chooses ds rs bytes r
chosen_whole ds rs bytes r few short h =
    subst (λ (xs : List Decision). Chooses xs rs bytes r) (take_all 64 ds few) (subst (λ (xs : List ℕ). Chooses (take 64 ds) rs xs r) (take_all 64 bytes short) h)

-- sets that agree below n find the same
module _ (ds : List Decision) (p : Plan) (s t : Set) (n : ℕ) (same : (d : ℕ) → d < n → s d ≡ t d) where
  at_same : (d : ℕ) → d < n → misfit_at ds s p d ≡ misfit_at ds t p d
  at_same d l = ap (λ (b : Bool). misfit d (size_at ds d) b (p d)) (same d l)

  pub first_same : (r : Result (Unit {0}) Breach) → FirstMisfit ds s p n r → FirstMisfit ds t p n r
  first_same (Ok u) none = λ d l. sym (at_same d l) ∙ none d l
  first_same (Err x) (d, l, none, here) = (d, l, (λ e k. sym (at_same e (omega arith)) ∙ none e k), sym (at_same d l) ∙ here)

-- one that fails
below_fails : (t : Set) (n i : ℕ) → i < n → t i ≡ false → all_below t n ≡ false
below_fails t zero i l h = absurd (omega arith)
below_fails t (suc n) i l h =
    ⊎_elim (λ (e : i ≡ n). and_left (t n) (all_below t n) (ap t (sym e) ∙ h))
    (λ (ne : i ≡ n → ⊥). and_right (t n) (all_below t n) (below_fails t n i (omega arith) h)) (cases_eq i n)

-- a decision that is no misfit passes its test
misfit_passes : (d size v : ℕ) (a : Bool) → misfit d size a v ≡ None → (beq (ltb 0 v) a && leb v size) ≡ true
misfit_passes d size v a h = grind (arith, common_steps)

-- a misfit fails the test of its decision
misfit_fails : (d size v : ℕ) (a : Bool) (x : Breach) → misfit d size a v ≡ Some x → (beq (ltb 0 v) a && leb v size) ≡ false
misfit_fails d size v false x h = grind (arith, common_steps)
misfit_fails d size v true x h = grind (arith, common_steps)

-- a plan that mistreats no decision passes the test of each
pub chosen_fits : (b : Book) (p : Plan) (r : Result (Unit {0}) Breach) → FirstMisfit b.decisions (active b p) p (length b.decisions) r → is_ok r ≡ all_below (fits b p) (length b.decisions)
chosen_fits b p (Ok u) none = sym (below_all (fits b p) (length b.decisions) (λ d l. misfit_passes d (size_at b.decisions d) (p d) (active b p d) (none d l)))
chosen_fits b p (Err x) (d, l, none, here) = sym (below_fails (fits b p) (length b.decisions) d l (misfit_fails d (size_at b.decisions d) (p d) (active b p d) x here))
