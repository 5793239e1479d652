-- The account after a change of rules.
use Rattle.std.proofs.lemmas.Grind.{common_steps}
use Rattle.std.proofs.Common.{◌≡◌, ℕ, Bool, false, not, ◌||◌, [], ◌∷◌, ◌++◌, Option, sym, ap, ◌∙◌, subst, arith}
use Rattle.std.specs.List.{remove}
use Rattle.account.specs.Accounts.{Account, Best, Exclusion}
use Rattle.account.specs.Changes.{added, best_meets, held, if_lawful, reopened, repriced, with_rules, withdrawn}
use Rattle.measure.specs.Meaning.{Meaning}
use Rattle.rules.specs.Plans.{Book}
use Rattle.rules.specs.declared.row.Kind.{Kind}
use Rattle.rules.specs.declared.row.Kind.TheVariants.{Forbid, Activate, Price}
use Rattle.rules.specs.declared.row.Row.{Row}
use Rattle.planner.specs.Bests.{unless_told}

-- an account with another book
abbrev pub with_book : {C : Type 0} → Account C → Book → Account C
with_book a b = record { book = b; ranks = a.ranks; trail = a.trail; exclusions = a.exclusions; best = a.best; state = a.state }

-- the arms of the changes, once the kind is known
module _ {C : Type 0} (m : Meaning C) (a x : Account C) (b : Book) where
  one : Book → Option (Best C) → (Exclusion → Bool) → Account C
  one y o keep = reopened (with_book a y) y o keep

  pub forbid_added : (r : Row) (k : Kind) (t : Bool) → k ≡ Forbid → b ≡ with_rules a.book k (held a.book k ++ r ∷ []) → t ≡ best_meets a.best r
      → x ≡ reopened (with_book a b) b (unless_told t a.best) (λ e. not t || not e.rests) → x ≡ added m a k r
  unfolding added one
  forbid_added r k t e f g h = grind (arith, common_steps)

  pub activate_added : (r : Row) (k : Kind) → k ≡ Activate → b ≡ with_rules a.book k (held a.book k ++ r ∷ []) → x ≡ reopened (with_book a b) b (if_lawful b a.best) (λ e. false) → x ≡ added m a k r
  unfolding added one
  activate_added r k e f h =
      subst (λ (j : Kind). b ≡ with_rules a.book j (held a.book j ++ r ∷ []) → x ≡ added m a j r) (sym e) (λ q. h ∙ ap (λ (y : Book). one y (if_lawful y a.best) (λ e. false)) q) f

  pub price_added : (r : Row) (k : Kind) (t : Bool) → k ≡ Price → b ≡ with_rules a.book k (held a.book k ++ r ∷ []) → t ≡ best_meets a.best r
      → x ≡ reopened (with_book a b) b (repriced m b.prices a.best) (λ e. not t || not e.rests) → x ≡ added m a k r
  unfolding added one
  price_added r k t e f g h = grind (arith, common_steps)

  pub forbid_withdrawn : (k : Kind) (n : ℕ) → k ≡ Forbid → b ≡ with_rules a.book k (remove (held a.book k) n) → x ≡ reopened (with_book a b) b a.best (λ e. false) → x ≡ withdrawn m a k n
  unfolding withdrawn one
  forbid_withdrawn k n e f h =
      subst (λ (j : Kind). b ≡ with_rules a.book j (remove (held a.book j) n) → x ≡ withdrawn m a j n) (sym e) (λ q. h ∙ ap (λ (y : Book). one y a.best (λ e. false)) q) f

  pub activate_withdrawn : (k : Kind) (n : ℕ) → k ≡ Activate → b ≡ with_rules a.book k (remove (held a.book k) n) → x ≡ reopened (with_book a b) b (if_lawful b a.best) (λ e. false) → x ≡ withdrawn m a k n
  unfolding withdrawn one
  activate_withdrawn k n e f h =
      subst (λ (j : Kind). b ≡ with_rules a.book j (remove (held a.book j) n) → x ≡ withdrawn m a j n) (sym e) (λ q. h ∙ ap (λ (y : Book). one y (if_lawful y a.best) (λ e. false)) q) f

  pub price_withdrawn : (k : Kind) (n : ℕ) → k ≡ Price → b ≡ with_rules a.book k (remove (held a.book k) n) → x ≡ reopened (with_book a b) b (repriced m b.prices a.best) (λ e. not e.rests) → x ≡ withdrawn m a k n
  unfolding withdrawn one
  price_withdrawn k n e f h =
      subst (λ (j : Kind). b ≡ with_rules a.book j (remove (held a.book j) n) → x ≡ withdrawn m a j n) (sym e) (λ q. h ∙ ap (λ (y : Book). one y (repriced m y.prices a.best) (λ e. not e.rests)) q) f
