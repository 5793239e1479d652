-- Two books with the same rules, each equally often, have the same lawful plans at the same costs, and two settled accounts over them report one cost.
use Rattle.std.proofs.lemmas.Grind.{common_steps}
use Rattle.std.proofs.lemmas.Grind.{common_steps}
use Rattle.std.proofs.Common.{◌≡◌, ℕ, ◌+◌, ◌<◌, ◌≤◌, Bool, true, false, cond, ◌&&◌, eqb, List, [], ◌∷◌, length, Some, None, count_by, Option, sym, refl, ap, ◌∙◌, subst, ⊎_elim, arith}
use Rattle.std.specs.List.{AllByRecursion}
use Rattle.std.proofs.lemmas.List.Sums.{sum_by-cons}
use Rattle.std.proofs.lemmas.Bool.{cases_Bool, false≢true, cond-true, cond-false, eqb-true, and_parts, and_from}
use Rattle.measure.specs.Meaning.{Meaning}
use Rattle.measure.specs.declared.price.Price.{Price}
use Rattle.measure.proofs.Laws.{Laws}
use Rattle.rules.specs.Conditions.{Plan, meets, met, condition}
use Rattle.rules.specs.Plans.{Book, Set, Closed, Lawful, cost, within, size_at, on_at}
use Rattle.rules.specs.declared.decision.Decision.{Decision}
use Rattle.rules.specs.declared.literal.Literal.{Literal}
use Rattle.rules.specs.declared.row.Kind.TheVariants.{Forbid, Activate, Price as Priced}
use Rattle.rules.specs.declared.row.Row.{Row}
use Rattle.account.specs.Accounts.{Account, Best}
use Rattle.account.specs.Law.{same_pairs, same_rule, SameRules, OneCost}
use Rattle.account.specs.declared.state.State.TheVariants.{Settled}
use Rattle.account.proofs.Reports.{Told, told, least, none}
use Rattle.account.proofs.Sound.{Sound}

-- rules that differ in nothing that a book reads
record Alike (r s : Row) : Type 0 where
  conditions : condition r ≡ condition s
  targets : r.target ≡ s.target
  prices : r.price ≡ s.price

pairs_reflexive : (ls : List Literal) → same_pairs ls ls ≡ true
pairs_reflexive [] = refl
pairs_reflexive (l ∷ ls) = grind (arith, common_steps, pairs_reflexive ls)

pairs_equal : (ls ks : List Literal) → same_pairs ls ks ≡ true → ls ≡ ks
pairs_equal [] [] h = refl
pairs_equal [] (k ∷ ks) h = absurd (false≢true h)
pairs_equal (l ∷ ls) [] h = absurd (false≢true h)
pairs_equal (l ∷ ls) (k ∷ ks) h =
    let outer = and_parts (eqb l.decision k.decision && eqb l.value k.value) (same_pairs ls ks) h in
    let inner = and_parts (eqb l.decision k.decision) (eqb l.value k.value) outer.0 in
    let d = eqb-true l.decision k.decision inner.0 in
    let v = eqb-true l.value k.value inner.1 in
    let rest = pairs_equal ls ks outer.1 in
    λ i. record { decision = d i; value = v i } ∷ rest i

-- the test by its three parts
abbrev same_by : Row → List Literal → ℕ → Price → Bool
same_by q c t p = same_pairs (condition q) c && eqb q.target t && eqb q.price.tier p.tier && eqb q.price.cents p.cents

four_parts : (a b c d : Bool) → (a && b && c && d) ≡ true → (a ≡ true) × (b ≡ true) × (c ≡ true) × (d ≡ true)
four_parts a b c d h = grind (arith, common_steps)

four_from : (a b c d : Bool) → a ≡ true → b ≡ true → c ≡ true → d ≡ true → (a && b && c && d) ≡ true
four_from a b c d p q r s = and_from (a && b && c) d (and_from (a && b) c (and_from a b p q) r) s

rule_reflexive : (r : Row) → same_rule r r ≡ true
rule_reflexive r = grind (arith, common_steps, four_from, pairs_reflexive)

rule_alike : (r s : Row) → same_rule r s ≡ true → Alike r s
rule_alike r s h =
    let each = four_parts (same_pairs (condition r) (condition s)) (eqb r.target s.target) (eqb r.price.tier s.price.tier) (eqb r.price.cents s.price.cents) h in
    let t = eqb-true r.price.tier s.price.tier each.2 in
    let c = eqb-true r.price.cents s.price.cents each.3 in
    record {
      conditions = pairs_equal (condition r) (condition s) each.0;
      targets = eqb-true r.target s.target each.1;
      prices = λ i. record { tier = t i; cents = c i };
    }

test_alike : (q r s : Row) → Alike r s → same_rule q r ≡ same_rule q s
test_alike q r s e = λ i. same_by q (e.conditions i) (e.targets i) (e.prices i)

-- a list with a rule in it, and without it
data Without (s : Row) : List Row → List Row → Type 0 where
  here : {xs : List Row} → Without s (s ∷ xs) xs
  there : {y : Row} {ys rest : List Row} → Without s ys rest → Without s (y ∷ ys) (y ∷ rest)

-- one list has the rules of the other, in any order
data Rearranged : List Row → List Row → Type 0 where
  empty : Rearranged [] []
  more : {r s : Row} {xs ys rest : List Row} → Alike r s → Without s ys rest → Rearranged xs rest → Rearranged (r ∷ xs) ys

record Found (r : Row) (ys : List Row) : Type 0 where
  rule : Row
  rest : List Row
  alike : Alike r rule
  without : Without rule ys rest

counts_cons : (t : Row → Bool) (y : Row) (ys : List Row) → count_by t (y ∷ ys) ≡ cond (t y) 1 0 + count_by t ys
counts_cons t y ys = sum_by-cons (λ x. cond (t x) 1 0) y ys

counts_without : (t : Row → Bool) {s : Row} {ys rest : List Row} → Without s ys rest → count_by t ys ≡ cond (t s) 1 0 + count_by t rest
counts_without t {s} (here {xs}) = counts_cons t s xs
counts_without t {s} (there {y} {ys} {rest} w) = omega (arith, counts_cons t y ys, counts_cons t y rest, counts_without t w)

find : (r : Row) (ys : List Row) → 0 < count_by (same_rule r) ys → Found r ys
find r [] h = absurd (omega arith)
find r (y ∷ ys) h =
    ⊎_elim (λ (e : same_rule r y ≡ true). record { rule = y; rest = ys; alike = rule_alike r y e; without = here })
    (λ (e : same_rule r y ≡ false).
    let skip = counts_cons (same_rule r) y ys in
    let nil = cond-false {A = ℕ} (same_rule r y) 1 0 e in
    let f = find r ys (omega arith) in
    record { rule = f.rule; rest = y ∷ f.rest; alike = f.alike; without = there f.without })
    (cases_Bool (same_rule r y))

one_of_itself : (y : Row) (ys : List Row) → 0 < count_by (same_rule y) (y ∷ ys)
one_of_itself y ys = omega (arith, counts_cons (same_rule y) y ys, cond-true {A = ℕ} (same_rule y y) 1 0 (rule_reflexive y))

abbrev Equally : List Row → List Row → Type 0
Equally xs ys = (q : Row) → count_by (same_rule q) xs ≡ count_by (same_rule q) ys

rearrange : (xs ys : List Row) → Equally xs ys → Rearranged xs ys
rearrange [] [] h = empty
rearrange [] (y ∷ ys) h = absurd (omega (arith, h y, one_of_itself y ys))
rearrange (r ∷ xs) ys h =
    let f = find r ys (omega (arith, h r, one_of_itself r xs)) in
    more f.alike f.without
    (rearrange xs f.rest (λ q.
    let t = ap {B = ℕ} (λ (b : Bool). cond b 1 0) (test_alike q r f.rule f.alike) in
    omega (arith, h q, counts_cons (same_rule q) r xs, counts_without (same_rule q) f.without)))

all_put_back : (P : Row → Type 0) {s : Row} {ys rest : List Row} → Without s ys rest → P s → AllByRecursion P rest → AllByRecursion P ys
all_put_back P here p h = (p, h)
all_put_back P (there w) p h = (h.0, all_put_back P w p h.1)

-- what holds of each rule, whatever rule like it stands there, holds of each rule of the other list
all_rearranged : (P : Row → Type 0) → ((r s : Row) → Alike r s → P r → P s) → {xs ys : List Row} → Rearranged xs ys → AllByRecursion P xs → AllByRecursion P ys
all_rearranged P kept empty h = tt
all_rearranged P kept (more {r} {s} a w o) h = all_put_back P w (kept r s a h.0) (all_rearranged P kept o h.1)

met_alike : (p : Plan) (r s : Row) → Alike r s → met p r ≡ met p s
met_alike p r s a = ap (meets p) a.conditions

module _ {C : Type 0} (m : Meaning C) (laws : Laws m) (p : Plan) where
  -- the cost with one rule more
  abbrev also : Row → C → C
  also r c = cond (met p r) (m.joins (m.reads r.price) c) c

  swap : (a b : C) (x y : Bool) (c : C) → cond x (m.joins a (cond y (m.joins b c) c)) (cond y (m.joins b c) c) ≡ cond y (m.joins b (cond x (m.joins a c) c)) (cond x (m.joins a c) c)
  swap a b true true c = sym (laws.associative a b c) ∙ ap (λ (z : C). m.joins z c) (laws.commutative a b) ∙ laws.associative b a c
  swap a b true false c = refl
  swap a b false true c = refl
  swap a b false false c = refl

  cost_without : {s : Row} {ys rest : List Row} → Without s ys rest → cost m ys p ≡ also s (cost m rest p)
  cost_without here = refl
  cost_without {s} (there {y} {ys} {rest} w) =
      ap (also y) (cost_without w) ∙ swap (m.reads y.price) (m.reads s.price) (met p y) (met p s) (cost m rest p)

  also_alike : (r s : Row) → Alike r s → (c : C) → also r c ≡ also s c
  also_alike r s a c = λ i. cond (met_alike p r s a i) (m.joins (m.reads (a.prices i)) c) c

  cost_rearranged : {xs ys : List Row} → Rearranged xs ys → cost m xs p ≡ cost m ys p
  cost_rearranged empty = refl
  cost_rearranged (more {r} {s} {xs} {ys} {rest} a w o) =
      ap (also r) (cost_rearranged o) ∙ also_alike r s a (cost m rest p) ∙ sym (cost_without w)

-- two books with the same decisions and the same rules
module _ (b b' : Book) (ds : b.decisions ≡ b'.decisions) (same : SameRules b b') where
  closed_same : (p : Plan) (s : Set) → Closed b p s → Closed b' p s
  closed_same p s c =
      record {
        marked = λ d on. c.marked d (ap (λ (l : List Decision). on_at l d) ds ∙ on);
        enabled =
            all_rearranged (λ r. met (within s p) r ≡ true → s r.target ≡ true)
            (λ r r' a h k. ap s (sym a.targets) ∙ h (met_alike (within s p) r r' a ∙ k))
            (rearrange b.activates b'.activates (same Activate)) c.enabled;
      }

module _ (b b' : Book) (ds : b.decisions ≡ b'.decisions) (same : SameRules b b') where
  -- the same plans are lawful
  pub lawful_same : (p : Plan) → Lawful b p → Lawful b' p
  lawful_same p h =
      record {
        only_active = λ d k s c. h.only_active d k s (closed_same b' b (sym ds) (λ k r. sym (same k r)) p s c);
        all_active = λ d k. h.all_active d (λ s c. k s (closed_same b b' ds same p s c));
        in_range = λ d. subst (λ (l : List Decision). p d ≤ size_at l d) ds (h.in_range d);
        unforbidden = all_rearranged (λ r. met p r ≡ false) (λ r r' a k. sym (met_alike p r r' a) ∙ k) (rearrange b.forbids b'.forbids (same Forbid)) h.unforbidden;
      }

  -- each at the same cost
  pub cost_same : {C : Type 0} (m : Meaning C) → Laws m → (p : Plan) → cost m b.prices p ≡ cost m b'.prices p
  cost_same m laws p = cost_rearranged m laws p (rearrange b.prices b'.prices (same Priced))

module _ {C : Type 0} (m : Meaning C) (laws : Laws m) (a a' : Account C) (s : Sound m a) (s' : Sound m a') (ds : a.book.decisions ≡ a'.book.decisions) (same : SameRules a.book a'.book) where
  back : SameRules a'.book a.book
  back k r = sym (same k r)

  lawful_there : (p : Plan) → Lawful a.book p → Lawful a'.book p
  lawful_there = lawful_same a.book a'.book ds same

  lawful_here : (p : Plan) → Lawful a'.book p → Lawful a.book p
  lawful_here = lawful_same a'.book a.book (sym ds) back

  module _ (e : a.state ≡ Settled) (e' : a'.state ≡ Settled) (buffer buffer' bytes bytes' : List ℕ) (c c' : Option C) where
    costs_agree : (o o' : Option (Best C)) → a.best ≡ o → a'.best ≡ o' → Told (length a.book.decisions) buffer o c bytes → Told (length a'.book.decisions) buffer' o' c' bytes' → c ≡ c'
    costs_agree None None is is' t t' = t ∙ sym t'
    costs_agree None (Some b') is is' t t' = absurd (rw is at (s.settled e b'.plan (lawful_here b'.plan (s'.best_good b' is').lawful)))
    costs_agree (Some b) None is is' t t' = absurd (rw is' at (s'.settled e' b.plan (lawful_there b.plan (s.best_good b is).lawful)))
    costs_agree (Some b) (Some b') is is' t t' =
        let good = s.best_good b is in
        let good' = s'.best_good b' is' in
        let low = rw is at (s.settled e b'.plan (lawful_here b'.plan good'.lawful)) in
        let low' = rw is' at (s'.settled e' b.plan (lawful_there b.plan good.lawful)) in
        let paid = good'.costs ∙ cost_same a'.book a.book (sym ds) back m laws b'.plan in
        let paid' = good.costs ∙ cost_same a.book a'.book ds same m laws b.plan in
        t.0
        ∙ ap Some
        (laws.equal b.cost b'.cost (subst (λ (x : C). m.at_most b.cost x ≡ true) (sym paid) low)
        (subst (λ (x : C). m.at_most b'.cost x ≡ true) (sym paid') low'))
        ∙ sym t'.0

  -- two settled accounts over the same rules report one cost
  pub one_cost : OneCost m a a'
  one_cost =
      record {
        same =
            λ buffer buffer' bytes bytes' c c' h h'.
            let k = told m a buffer bytes Settled c h in
            let k' = told m a' buffer' bytes' Settled c' h' in
            costs_agree k.0 k'.0 buffer buffer' bytes bytes' c c' a.best a'.best refl refl k.1 k'.1;
        least = least m a s;
        none = none m a s;
      }
