-- Whether decisions fit and no row is met, as loops find it.
use Rattle.std.proofs.lemmas.Grind.{common_steps}
use Rattle.std.proofs.Common.{◌≡◌, ℕ, ◌≤◌, Bool, true, false, not, ◌&&◌, List, [], ◌∷◌, length, take, filter, is_some, is_ok, Some, None, Option, Result, sym, refl, ap, ◌∙◌, subst, arith}
use Rattle.std.specs.Option.{option_map}
use Rattle.account.specs.Steps.{first_met}
use Rattle.rules.specs.Conditions.{Plan, from_bytes}
use Rattle.rules.specs.Plans.{Book, is_lawful, meets_none}
use Rattle.rules.specs.Searches.{Chooses}
use Rattle.rules.specs.declared.decision.Decision.{Decision}
use Rattle.rules.specs.declared.row.Row.{Row}
use Rattle.rules.specs.declared.verdict.Breach.{Breach}
use Rattle.rules.proofs.Misfits.{chosen_fits, chosen_whole}

-- every row counts
pub each_counts : (rs : List Row) → filter (λ r. true) rs ≡ rs
each_counts [] = refl
each_counts (r ∷ rs) = ap (λ xs. r ∷ xs) (each_counts rs)

-- lawfulness, by what was found of the choices
pub lawful_by : (ds : List Decision) (forbids activates prices : List Row) (bytes : List ℕ) → length ds ≤ 64 → length bytes ≤ 64 → (r : Result (Unit {0}) Breach) (t : Bool) → t ≡ is_ok r → Chooses (take 64 ds) (filter (λ r. true) activates) (take 64 bytes) r
    → (t && meets_none forbids (from_bytes bytes)) ≡ is_lawful (record { decisions = ds; forbids = forbids; activates = activates; prices = prices }) (from_bytes bytes)
lawful_by ds forbids activates prices bytes few short r t e h =
    let p = from_bytes bytes in
    let b : Book = record { decisions = ds; forbids = forbids; activates = activates; prices = prices } in
    let chosen = chosen_whole ds activates bytes r few short (subst (λ (rs : List Row). Chooses (take 64 ds) rs (take 64 bytes) r) (each_counts activates) h) in
    ap (λ (x : Bool). x && meets_none forbids p) (e ∙ chosen_fits b p r chosen)

-- no row is met if there is no first
none_first : (rs : List Row) (p : Plan) → meets_none rs p ≡ not (is_some (first_met rs p))
none_first [] p = refl
none_first (r ∷ rs) p = grind (arith, common_steps, none_first rs p)

-- whether a search for the first found nothing
pub found_none : {X : Type 0} (f : X → Row) (o : Option X) (r : Bool) (rs : List Row) (p : Plan) → is_some o ≡ not r → option_map f o ≡ first_met rs p → r ≡ meets_none rs p
found_none {X} f o r rs p h e = go o r h ∙ ap (λ (x : Option Row). not (is_some x)) e ∙ sym (none_first rs p)
  where
    go : (o : Option X) (r : Bool) → is_some o ≡ not r → r ≡ not (is_some (option_map f o))
    go None true h = refl
    go None false h = h
    go (Some x) true h = h
    go (Some x) false h = refl
