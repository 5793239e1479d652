-- The rows of one kind, and what those of price rules cost.
use Rattle.std.proofs.lemmas.Grind.{common_steps}
use Rattle.std.proofs.Common.{◌≡◌, Bool, true, false, cond, ◌&&◌, List, [], ◌∷◌, filter, sym, refl, ap, ◌∙◌, arith}
use Rattle.std.specs.List.{fold}
use Rattle.measure.specs.Meaning.{Meaning}
use Rattle.rules.specs.Compose.{is_forbid, is_activate, is_price}
use Rattle.rules.specs.Conditions.{Plan, met}
use Rattle.rules.specs.Plans.{cost}
use Rattle.rules.specs.declared.row.Row.{Row}

abbrev pub activates : List Row → List Row
activates rs = filter (λ r. is_activate r.kind) rs

abbrev pub forbids : List Row → List Row
forbids rs = filter (λ r. is_forbid r.kind) rs

abbrev pub prices : List Row → List Row
prices rs = filter (λ r. is_price r.kind) rs

-- what is paid, joined one by one to a cost
module _ {C : Type 0} (m : Meaning C) (associative : (a b c : C) → m.joins (m.joins a b) c ≡ m.joins a (m.joins b c)) (neutral : (a : C) → m.joins a m.neutral ≡ a) (p : Plan) where
  abbrev pub paid : C → List Row → C
  paid c rs = fold (λ sum r. m.joins sum (m.reads r.price)) c (filter (λ r. is_price r.kind && met p r) rs)

  pub paid_is_cost : (rs : List Row) (c : C) → paid c rs ≡ m.joins c (cost m (prices rs) p)
  paid_is_cost [] c = sym (neutral c)
  paid_is_cost (r ∷ rs) c = go (is_price r.kind) (met p r) refl (paid_is_cost rs)
    where
      joined : C
      joined = m.joins c (m.reads r.price)

      go : (a b : Bool) → met p r ≡ b → ((s : C) → paid s rs ≡ m.joins s (cost m (prices rs) p))
          → fold (λ sum x. m.joins sum (m.reads x.price)) c (cond (a && b) (r ∷ filter (λ x. is_price x.kind && met p x) rs) (filter (λ x. is_price x.kind && met p x) rs))
          ≡ m.joins c (cost m (cond a (r ∷ prices rs) (prices rs)) p)
      go false b e later = later c
      go true false e later = later c ∙ sym (ap (λ (x : Bool). m.joins c (cond x (m.joins (m.reads r.price) (cost m (prices rs) p)) (cost m (prices rs) p))) e)
      go true true e later = grind (arith, common_steps)
