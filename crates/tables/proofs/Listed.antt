-- Sets of decisions beside lists of the same decisions.
use Rattle.std.proofs.Common.{◌≡◌, ℕ, ◌<◌, Bool, true, false, ◌&&◌, ◌||◌, eqb, ltb, List, [], ◌∷◌, sym, refl, ap, ◌∙◌, ⊎_elim, arith}
use mathlib.Core.Path.{fun_ext}
use Rattle.std.specs.List.{AllByRecursion}
use Rattle.std.proofs.lemmas.Bool.{and_parts, and_from, eq-eqb, eqb-true, lt-ltb, or_cases, or_left, or_right, false≢true}
use Rattle.rules.specs.Plans.{Set}
use Rattle.account.specs.Accounts.{has_any}
use Rattle.sets.specs.Searches.{some_below}
use Rattle.sets.proofs.SearchLaws.{some_below_from, some_below_found}
use Rattle.tables.specs.Entries.{in_list}

-- an element of a list whose elements are all below a bound
listed_below : (x : ℕ) (ds : List ℕ) → AllByRecursion (λ (d : ℕ). d < 64) ds → in_list x ds ≡ true → x < 64
listed_below x [] all h = absurd (false≢true h)
listed_below x (d ∷ ds) all h =
    ⊎_elim (λ (t : eqb x d ≡ true). omega (arith, eqb-true x d t, all.0)) (λ (t : in_list x ds ≡ true). listed_below x ds all.1 t) (or_cases (eqb x d) (in_list x ds) h)

any_from : (s : Set) (x : ℕ) (ds : List ℕ) → s x ≡ true → in_list x ds ≡ true → has_any s ds ≡ true
any_from s x [] t h = absurd (false≢true h)
any_from s x (d ∷ ds) t h =
    ⊎_elim (λ (q : eqb x d ≡ true). or_left (s d) (has_any s ds) (ap s (sym (eqb-true x d q)) ∙ t)) (λ (q : in_list x ds ≡ true). or_right (s d) (has_any s ds) (any_from s x ds t q)) (or_cases (eqb x d) (in_list x ds) h)

any_found : (s : Set) (ds : List ℕ) → has_any s ds ≡ true → (x : ℕ) × (s x ≡ true) × (in_list x ds ≡ true)
any_found s [] h = absurd (false≢true h)
any_found s (d ∷ ds) h =
    ⊎_elim (λ (q : s d ≡ true). (d, q, or_left (eqb d d) (in_list d ds) (eq-eqb d d refl)))
    (λ (q : has_any s ds ≡ true). let f = any_found s ds q in (f.0, f.1, or_right (eqb f.0 d) (in_list f.0 ds) f.2))
    (or_cases (s d) (has_any s ds) h)

same_truth : (a b : Bool) → (a ≡ true → b ≡ true) → (b ≡ true → a ≡ true) → a ≡ b
same_truth true b f g = sym (f refl)
same_truth false true f g = g refl
same_truth false false f g = refl

-- two sets meet below 64 where one has some decision of the other's list
pub meets_any : (s t : Set) (ds : List ℕ) → t ≡ (λ (x : ℕ). in_list x ds) → AllByRecursion (λ (d : ℕ). d < 64) ds → some_below (λ (x : ℕ). s x && t x) 64 ≡ has_any s ds
meets_any s t ds e all =
    rw e
    (same_truth (some_below (λ (x : ℕ). s x && in_list x ds) 64) (has_any s ds)
    (λ h. let f = some_below_found (λ (x : ℕ). s x && in_list x ds) 64 h in let p = and_parts (s f.0) (in_list f.0 ds) f.2 in any_from s f.0 ds p.0 p.1)
    (λ h. let f = any_found s ds h in some_below_from (λ (x : ℕ). s x && in_list x ds) 64 f.0 (listed_below f.0 ds all f.2) (and_from (s f.0) (in_list f.0 ds) f.1 f.2)))

swapped : (a b c : Bool) → c ≡ true → (a || (b && c)) ≡ (b || a)
swapped true true c h = refl
swapped true false c h = refl
swapped false true c h = h
swapped false false c h = refl

-- a set with one decision more has the list with it in front
pub left_more : (s t : Set) (ds : List ℕ) (d : ℕ) → s ≡ (λ (x : ℕ). in_list x ds) → d < 64 → t ≡ (λ (x : ℕ). s x || (eqb x d && ltb d 64)) → t ≡ (λ (x : ℕ). in_list x (d ∷ ds))
left_more s t ds d e l h =
    h ∙ fun_ext (λ (x : ℕ). ap (λ (u : Set). u x || (eqb x d && ltb d 64)) e ∙ swapped (in_list x ds) (eqb x d) (ltb d 64) (lt-ltb d 64 l))
