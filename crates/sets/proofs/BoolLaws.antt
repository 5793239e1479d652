-- Laws of truth values.
use Rattle.std.proofs.Common.{◌≡◌, Bool, true, false, not, ◌&&◌, ◌||◌, refl}

-- a test that fails adds nothing to `||`
pub or_failed : (p q : Bool) → q ≡ false → (p || q) ≡ p
or_failed true q e = refl
or_failed false q e = e

-- a test that holds takes nothing from `&&`
pub and_held : (p q : Bool) → q ≡ true → (p && q) ≡ p
and_held true q e = e
and_held false q e = refl

-- `not` twice
pub not_twice : (p : Bool) → p ≡ not (not p)
not_twice true = refl
not_twice false = refl
