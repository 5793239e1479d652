-- Fields and their forms: what is written of a number, a mark or a pair is read as that, and only that is.
use Rattle.std.proofs.lemmas.Grind.{common_steps}
use Rattle.std.proofs.Common.{◌≡◌, ℕ, ◌+◌, ◌%◌, ◌^◌, ◌<◌, ◌≤◌, Bool, true, false, leb, List, [], ◌∷◌, ◌++◌, map, length, take, drop, Some, None, Ok, Err, decimal, Option, Result, refl, ap, ◌∙◌, subst, ⊎_elim, arith}
use Rattle.std.specs.Option.{option_map}
use Rattle.std.specs.List.{AllByRecursion}
use Rattle.std.proofs.lemmas.Fmt.{decimal_by_steps, decimal_nonempty}
use Rattle.std.proofs.lemmas.List.{drop_all}
use Rattle.std.proofs.lemmas.Bool.{and_from, and_parts, cases_lt, le-leb, leb-true}
use Rattle.reading.specs.Numbers.{number_up_to}
use Rattle.reading.specs.Pieces.{before, is_nil}
use Rattle.reading.proofs.Numerals.{decimal_from_read, none_if_empty, reads_decimal}
use Rattle.rules.specs.declared.literal.Literal.{Literal}
use Rattle.rendering.specs.Texts.{mark_text, pair_text}
use Rattle.statements.specs.Forms.{both, mark_of, pair_of}
use Rattle.statements.specs.Statements.{formed, read_pairs, then, unless}
use Rattle.statements.specs.declared.fault.Fault.{Fault}
use Rattle.grammar.specs.Grammar.{fitting_pair, fitting_pairs}
use Rattle.grammar.proofs.Joins.{Lacks, at_byte, before_behind, drop_front, lacks_append, lacks_more, take_front}

-- a byte that is no digit
abbrev pub NoDigit : ℕ → Type 0
NoDigit b = (d : ℕ) → d < 10 → 48 + d ≡ b → ⊥

lacks_decimal : (b : ℕ) → NoDigit b → (n : ℕ) → n < 2 ^ 64 → Lacks b (decimal n)
lacks_decimal b none =
    decimal_by_steps (λ n ds. Lacks b ds) (λ n h. lacks_more b (48 + n) [] (none n h) refl)
    (λ n ds h k. lacks_append b ds ((48 + n % 10) ∷ []) k (lacks_more b (48 + n % 10) [] (none (n % 10) (omega arith)) refl))

-- a text of some bytes is not empty
pub filled : (f : List ℕ) → 0 < length f → is_nil f ≡ false
filled [] h = absurd (omega arith)
filled (x ∷ xs) h = refl

-- a field that can stand in a line cut at b: some bytes, none of them b
abbrev pub Solid : ℕ → List ℕ → Type 0
Solid b f = Lacks b f × (is_nil f ≡ false)

module _ (b : ℕ) (low : b < 48) where
  pub solid_decimal : (limit n : ℕ) → limit < 2 ^ 64 → leb n limit ≡ true → Solid b (decimal n)
  solid_decimal limit n small h =
      let k : n < 2 ^ 64 = omega (arith, leb-true n limit h) in
      (lacks_decimal b (λ (d : ℕ) (h : d < 10) (e : 48 + d ≡ b). omega arith) n k, filled (decimal n) (decimal_nonempty n k))

  pub solid_mark : (on : Bool) → Solid b (mark_text on)
  solid_mark true = (lacks_more b 111 (110 ∷ []) (λ e. omega arith) (lacks_more b 110 [] (λ e. omega arith) refl), refl)
  solid_mark false =
      (lacks_more b 111 (102 ∷ 102 ∷ []) (λ e. omega arith) (lacks_more b 102 (102 ∷ []) (λ e. omega arith) (lacks_more b 102 [] (λ e. omega arith) refl)), refl)

  solid_pair : (l : Literal) → fitting_pair l ≡ true → Solid b (pair_text l)
  unfolding pair_text
  solid_pair l h = grind (arith, common_steps, lacks_append, solid_decimal, lacks_more, filled)

  pub solid_pairs : (ps : List Literal) → fitting_pairs ps ≡ true → AllByRecursion (Solid b) (map pair_text ps)
  solid_pairs [] h = tt
  solid_pairs (p ∷ ps) h = let fit = and_parts (fitting_pair p) (fitting_pairs ps) h in (solid_pair p fit.0, solid_pairs ps fit.1)

-- what an answer says of the parts that it is made of
module _ {X : Type 0} where
  pub err_ok : {E : Type 0} (d : E) (x : X) → Err d ≡ Ok x → ⊥
  err_ok d x e = cc

  pub then_ok : {Y E : Type 0} (r : Result X E) (f : X → Result Y E) (y : Y) → then r f ≡ Ok y → (x : X) × ((r ≡ Ok x) × (f x ≡ Ok y))
  then_ok (Ok x) f y e = (x, (refl, e))
  then_ok (Err d) f y e = cc

  pub unless_ok : {E : Type 0} (o : Option E) (r : Result X E) (x : X) → unless o r ≡ Ok x → (o ≡ None) × (r ≡ Ok x)
  unless_ok (Some d) r x e = cc
  unless_ok None r x e = (refl, e)

  formed_ok : (n c : ℕ) (o : Option X) (x : X) → formed n c o ≡ Ok x → o ≡ Some x
  formed_ok n c None x e = cc
  formed_ok n c (Some y) x e = cc

  pub mapped_none : {Y : Type 0} (f : X → Y) (o : Option X) → option_map f o ≡ None → o ≡ None
  mapped_none f None e = refl
  mapped_none f (Some x) e = cc

-- a field that is read, and what follows
pub then_formed : {X Y : Type 0} (n c : ℕ) (o : Option X) (f : X → Result Y Fault) (y : Y) → then (formed n c o) f ≡ Ok y → (x : X) × ((o ≡ Some x) × (f x ≡ Ok y))
then_formed n c o f y e = let p = then_ok (formed n c o) f y e in (p.0, (formed_ok n c o p.0 p.1.0, p.1.1))

-- numbers up to 255, and up to any limit that a field has
pub decimal_read : (limit n : ℕ) → limit < 2 ^ 64 → leb n limit ≡ true → number_up_to limit (decimal n) ≡ Some n
decimal_read limit n small h = reads_decimal limit n (leb-true n limit h) (omega (arith, leb-true n limit h))

pub decimal_only : (limit n : ℕ) (f : List ℕ) → limit < 2 ^ 64 → number_up_to limit f ≡ Some n → (f ≡ decimal n) × (leb n limit ≡ true)
decimal_only limit n f small e = let d = decimal_from_read limit n f small e in (d.0, le-leb n limit d.1)

-- marks
pub mark_read : (on : Bool) → mark_of (mark_text on) ≡ Some on
mark_read true = refl
mark_read false = refl

pub mark_only : (f : List ℕ) (on : Bool) → mark_of f ≡ Some on → f ≡ mark_text on
mark_only f on e = grind (arith, common_steps)

-- pairs
pair_read : (l : Literal) → fitting_pair l ≡ true → pair_of (pair_text l) ≡ Some l
unfolding pair_of pair_text
pair_read l h = grind (arith, common_steps, before_behind, lacks_decimal, take_front, decimal_read, drop_front)

both_some : (a b : Option ℕ) (l : Literal) → both a b ≡ Some l → (a ≡ Some l.decision) × (b ≡ Some l.value)
both_some None b l e = cc
both_some (Some d) None l e = cc
both_some (Some d) (Some v) l e = grind (arith, common_steps)

pair_only : (f : List ℕ) (l : Literal) → pair_of f ≡ Some l → (f ≡ pair_text l) × (fitting_pair l ≡ true)
unfolding pair_of pair_text
pair_only f l e =
    let parts = both_some _ _ l e in
    let d = decimal_only 255 l.decision (take (before 61 f) f) (omega arith) parts.0 in
    let v = decimal_only 255 l.value (drop (before 61 f + 1) f) (omega arith) parts.1 in
    ⊎_elim
    (λ (has : before 61 f < length f).
    (at_byte 61 f has ∙ ap (λ (t : List ℕ). t ++ 61 ∷ drop (before 61 f + 1) f) d.0 ∙ ap (λ (t : List ℕ). decimal l.decision ++ 61 ∷ t) v.0, and_from _ _ d.1 v.1))
    (λ (whole : length f ≤ before 61 f).
    let z = none_if_empty 255 (drop (before 61 f + 1) f) (omega (arith, ap length (drop_all (before 61 f + 1) f (omega arith)))) ∙ parts.1 in cc)
    (cases_lt (before 61 f) (length f))

pub pairs_read : (n c : ℕ) (ps : List Literal) → fitting_pairs ps ≡ true → read_pairs n c (map pair_text ps) ≡ Ok ps
unfolding read_pairs
pairs_read n c [] h = refl
pairs_read n c (p ∷ ps) h =
    let fit = and_parts (fitting_pair p) (fitting_pairs ps) h in
    let e = pair_read p fit.0 in
    let es = pairs_read n (c + length (pair_text p) + 1) ps fit.1 in
    rw (e, es)

pub pairs_only : (n c : ℕ) (fs : List (List ℕ)) (ps : List Literal) → read_pairs n c fs ≡ Ok ps → (fs ≡ map pair_text ps) × (fitting_pairs ps ≡ true)
unfolding read_pairs
pairs_only n c [] ps e = let r : [] ≡ ps = cc in subst (λ (qs : List Literal). ([] ≡ map pair_text qs) × (fitting_pairs qs ≡ true)) r (refl, refl)
pairs_only n c (f ∷ fs) ps e =
    let first = then_formed n c (pair_of f) _ ps e in
    let rest = then_ok (read_pairs n (c + length f + 1) fs) _ ps first.1.1 in
    let p = pair_only f first.0 first.1.0 in
    let qs = pairs_only n (c + length f + 1) fs rest.0 rest.1.0 in
    let r : first.0 ∷ rest.0 ≡ ps = cc rest.1.1 in
    subst (λ (qs : List Literal). (f ∷ fs ≡ map pair_text qs) × (fitting_pairs qs ≡ true)) r
    (ap (λ (g : List ℕ). g ∷ fs) p.0 ∙ ap (λ (gs : List (List ℕ)). pair_text first.0 ∷ gs) qs.0, and_from _ _ p.1 qs.1)
