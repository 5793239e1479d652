-- What a book of bytes comes to is what the calls answer over the decisions and rules that it states.
use Rattle.std.proofs.Common.{◌≡◌, ℕ, zero, suc, ◌*◌, ◌/◌, ◌≤◌, Bool, true, false, List, [], ◌∷◌, ◌++◌, map, length, take, drop, is_some, Some, None, Ok, Err, Option, Result, sym, refl, ap, ◌∙◌, subst, arith}
use Rattle.std.specs.List.{AllByRecursion, slice_index}
use Rattle.std.specs.Option.{ok_or, option_and_then, option_map, option_map_or, option_or}
use Rattle.std.specs.Simd.{first_chunks}
use Rattle.measure.specs.Meaning.{Meaning}
use Rattle.measure.specs.Supplied.{cents}
use Rattle.measure.specs.declared.cents.Cents.{Cents}
use Rattle.rules.specs.Compose.{compose_refusal}
use Rattle.rules.specs.Conditions.{condition}
use Rattle.rules.specs.Judging.{open_refusal}
use Rattle.rules.specs.Refusals.{when}
use Rattle.rules.specs.declared.refusal.Refusal.{Refusal}
use Rattle.rules.specs.declared.decision.Decision.{Decision}
use Rattle.rules.specs.declared.row.Kind.{Kind}
use Rattle.rules.specs.declared.row.Row.{Row}
use Rattle.rules.specs.declared.rule.Rule.{Rule}
use Rattle.rules.proofs.Composing.{accepted_shape}
use Rattle.rules.proofs.Grounds.{option_or_none}
use Rattle.account.specs.Accounts.{Account, Best, fresh}
use Rattle.account.specs.Calls.{Answer, Call, add, add_refusal, after, after_if, answer, answer_if, best, done, made, ran, refusal, report, reported, run, written}
use Rattle.account.specs.Changes.{added}
use Rattle.account.specs.Steps.{advance}
use Rattle.account.specs.declared.state.State.{State}
use Rattle.engine.specs.Answered.{Planned, loaded, opened, outcome_of, planned, read_record, read_records, with_rule, then, told, refusal_or}
use Rattle.engine.specs.Laws.{AnswersAsCalls, Called, answers, composing, stated}
use Rattle.engine.specs.Stated.{Layout, decisions_in, pairs_in, layout_in, price_in, row_in}
use Rattle.engine.specs.declared.fault.Fault.{Fault}
use Rattle.engine.specs.declared.fault.Fault.TheVariants.{Malformed, Refused}

-- what a result that is there tells of its parts
err_not : {X E : Type 0} (e : E) (x : X) → ◌≡◌ {A = Result X E} (Err e) (Ok x) → ⊥
err_not e x h = cc

none_not : {X : Type 0} (x : X) → ◌≡◌ {A = Option X} None (Some x) → ⊥
none_not x h = cc

ok_same : {X E : Type 0} (x y : X) → ◌≡◌ {A = Result X E} (Ok x) (Ok y) → x ≡ y
ok_same x y h = cc

then_ok : {X Y E : Type 0} (r : Result X E) (f : X → Result Y E) (y : Y) → then r f ≡ Ok y → (x : X) × (r ≡ Ok x) × (f x ≡ Ok y)
then_ok (Ok x) f y h = (x, refl, h)
then_ok (Err e) f y h = absurd (err_not e y h)

some_ok : {X E : Type 0} (o : Option X) (e : E) (x : X) → ok_or o e ≡ Ok x → o ≡ Some x
some_ok (Some z) e x h = cc
some_ok None e x h = cc

unless_ok : {X : Type 0} (o : Option Refusal) (r : Result X Fault) (x : X) → refusal_or o r ≡ Ok x → (o ≡ None) × (r ≡ Ok x)
unless_ok (Some e) r x h = absurd (err_not (Refused e) x h)
unless_ok None r x h = (refl, h)

-- numbers of a list that are bytes
abbrev pub Bytes : List ℕ → Type 0
Bytes xs = (i : ℕ) → slice_index xs i ≤ 255

take_bytes : (n : ℕ) (xs : List ℕ) → Bytes xs → Bytes (take n xs)
take_bytes zero xs h i = omega arith
take_bytes (suc n) [] h i = h i
take_bytes (suc n) (x ∷ xs) h zero = h zero
take_bytes (suc n) (x ∷ xs) h (suc i) = take_bytes n xs (λ j. h (suc j)) i

drop_bytes : (n : ℕ) (xs : List ℕ) → Bytes xs → Bytes (drop n xs)
drop_bytes zero xs h = h
drop_bytes (suc n) [] h = h
drop_bytes (suc n) (x ∷ xs) h = drop_bytes n xs (λ j. h (suc j))

chunks_bytes : (k : ℕ) (xs : List ℕ) → Bytes xs → AllByRecursion Bytes (first_chunks 16 k xs)
chunks_bytes zero xs h = tt
chunks_bytes (suc k) xs h = (take_bytes 16 xs h, chunks_bytes k (drop 16 xs) (drop_bytes 16 xs h))

records_bytes : (book : List ℕ) (p : Layout) → Bytes book → layout_in book ≡ Some p → AllByRecursion Bytes p.records
records_bytes [] p h e = absurd (none_not p e)
records_bytes (n ∷ bytes) p h e =
    let rest = drop (2 * n) bytes in
    subst (λ (rs : List (List ℕ)). AllByRecursion Bytes rs) (sym (there _ _ e)) (chunks_bytes (length rest / 16) rest (drop_bytes (2 * n) bytes (λ j. h (suc j))))
  where
    there : (t : Bool) (q : Layout) → when t q ≡ Some p → p.records ≡ q.records
    there true q h = cc
    there false q h = absurd (none_not p h)

-- a row that bytes state has a target and a tier that are bytes
row_small : (bytes : List ℕ) (row : Row) → Bytes bytes → row_in bytes ≡ Some row → (row.target ≤ 255) × (row.price.tier ≤ 255)
row_small bytes row h e =
    let (k, is) = there _ _ (λ (kind : Kind). record { kind = kind; count = slice_index bytes 1; pairs = pairs_in bytes; target = slice_index bytes 10; price = price_in bytes }) e in
    subst (λ (r : Row). (r.target ≤ 255) × (r.price.tier ≤ 255)) (sym is) (h 10, h 11)
  where
    there : (o : Option Kind) (t : Bool) (q : Kind → Row) → option_and_then (λ (kind : Kind). when t (q kind)) o ≡ Some row → (kind : Kind) × (row ≡ q kind)
    there (Some k) true q e = (k, cc)
    there (Some k) false q e = absurd (none_not row e)
    there None t q e = absurd (none_not row e)

-- parts that composing accepts make a rule
rule_of : (row : Row) → row.target ≤ 255 → row.price.tier ≤ 255 → compose_refusal row.kind (condition row) row.price ≡ None → (r : Rule) × (r.row ≡ composing row)
rule_of row low tier accepted =
    let (some, few, full, ascending, exact) = accepted_shape (composing row) row.kind (condition row) row.target row.price refl low tier accepted in
    (record { row = composing row; some = some; few = few; full = full; ascending = ascending; exact = exact }, refl)

states_first : (bytes : List ℕ) (row : Row) (r : Rule) (records : List (List ℕ)) (rules : List Rule)
    → row_in bytes ≡ Some row → r.row ≡ composing row → map stated records ≡ map (λ (x : Rule). Some x.row) rules → map stated (bytes ∷ records) ≡ map (λ (x : Rule). Some x.row) (r ∷ rules)
states_first bytes row r records rules there is rest =
    ap (λ (o : Option Row). option_map composing o ∷ map stated records) there
    ∙ ap (λ (w : Row). Some w ∷ map stated records) (sym is)
    ∙ ap (λ (ws : List (Option Row)). Some r.row ∷ ws) rest

module _ {C : Type 0} (m : Meaning C) where
  -- the rule of a row, accepted
  module _ (a : Account C) (row : Row) (r : Rule) (is : r.row ≡ composing row) (none : add_refusal a (composing row) ≡ None) where
    accepted : add_refusal a r.row ≡ None
    accepted = ap (add_refusal a) is ∙ none

    says : answer m a (add r) ≡ done
    says = ap (answer_if m a (add r)) accepted

    leaves : after m a (add r) ≡ added m a row.kind (composing row)
    leaves = ap (after_if m a (add r)) accepted ∙ ap (λ (w : Row). added m a w.kind w) is

    says_first : (cs : List Call) (rest : List (Answer C)) → answers m (added m a row.kind (composing row)) cs ≡ rest → answers m a (add r ∷ cs) ≡ done ∷ rest
    says_first cs rest h =
        ap (λ (x : Answer C). x ∷ answers m (after m a (add r)) cs) says
        ∙ ap (λ (c : Account C). done ∷ answers m c cs) leaves
        ∙ ap (λ (xs : List (Answer C)). done ∷ xs) h

  -- records state rules, whose adds are all accepted, on the way from an account to another
  record Adding (records : List (List ℕ)) (a b : Account C) : Type 0 where
    rules : List Rule
    rules_are : map stated records ≡ map (λ (r : Rule). Some r.row) rules
    answers_are : (cs : List Call) → answers m a (map add rules ++ cs) ≡ map (λ (r : Rule). done) rules ++ answers m b cs

  adding : (records : List (List ℕ)) → AllByRecursion Bytes records → (a b : Account C) → read_records m a records ≡ Ok b → Adding records a b
  unfolding read_records
  adding [] all a b h = record { rules = []; rules_are = refl; answers_are = λ cs. ap (λ (c : Account C). answers m c cs) (ok_same a b h) }
  adding (bytes ∷ records) all a b h =
      let (c, one, more) = then_ok (read_record m a bytes) (λ (x : Account C). read_records m x records) b h in
      let (row, there, made) = then_ok (ok_or (row_in bytes) Malformed) (with_rule m a) c one in
      let row_is = some_ok (row_in bytes) Malformed row there in
      let (free, left) = unless_ok (option_or (compose_refusal row.kind (condition row) row.price) (add_refusal a (composing row))) (Ok (added m a row.kind (composing row))) c made in
      let (shaped, none) = option_or_none (compose_refusal row.kind (condition row) row.price) (add_refusal a (composing row)) free in
      let (low, tier) = row_small bytes row all.0 row_is in
      let (r, is) = rule_of row low tier shaped in
      let next = added m a row.kind (composing row) in
      let rest = adding records all.1 next b (ap (λ (x : Account C). read_records m x records) (ok_same next c left) ∙ more) in
      record {
        rules = r ∷ rest.rules;
        rules_are = states_first bytes row r records rest.rules row_is is rest.rules_are;
        answers_are = λ cs. says_first a row r is none (map add rest.rules ++ cs) (map (λ (x : Rule). done) rest.rules ++ answers m b cs) (rest.answers_are cs);
      }

-- what best reports, in parts
report_is : (s : State) (n : ℕ) (buffer : List ℕ) (o : Option (Best Cents))
    → report s n buffer o ≡ reported s (option_map (λ (b : Best Cents). b.cost) o) (option_map_or (λ (b : Best Cents). written n b.plan buffer) o buffer)
report_is s n buffer None = refl
report_is s n buffer (Some b) = refl

cost_told : (o : Option (Best Cents)) → option_map_or (λ (b : Best Cents). b.cost.sum) o 0 ≡ option_map_or (λ (c : Cents). c.sum) (option_map (λ (b : Best Cents). b.cost) o) 0
cost_told None = refl
cost_told (Some b) = refl

held_told : (o : Option (Best Cents)) → is_some o ≡ is_some (option_map (λ (b : Best Cents). b.cost) o)
held_told None = refl
held_told (Some b) = refl

-- a run and a best, both accepted
module _ (a : Account Cents) (budget : ℕ) (buffer : List ℕ) (fine : refusal a (run budget) ≡ None) (long : refusal (after cents a (run budget)) (best buffer) ≡ None) where
  abbrev end : Account Cents
  end = after cents a (run budget)

  both_say : answers cents a (run budget ∷ best buffer ∷ []) ≡ ran (made cents budget a) end.state ∷ reported end.state (option_map (λ (b : Best Cents). b.cost) end.best) (told end buffer) ∷ []
  both_say =
      let left : end ≡ advance cents budget a = ap (after_if cents a (run budget)) fine in
      let first : answer cents a (run budget) ≡ ran (made cents budget a) end.state =
      ap (answer_if cents a (run budget)) fine ∙ ap (λ (b : Account Cents). ran (made cents budget a) b.state) (sym left) in
      let second = ap (answer_if cents end (best buffer)) long ∙ report_is end.state (length end.book.decisions) buffer end.best in
      ap (λ (x : Answer Cents). x ∷ answer cents end (best buffer) ∷ []) first ∙ ap (λ (x : Answer Cents). ran (made cents budget a) end.state ∷ x ∷ []) second

-- the law
pub answers_as_calls : (book : List ℕ) (budget : ℕ) (buffer : List ℕ) → Bytes book → AnswersAsCalls book budget buffer
answers_as_calls book budget buffer bytes p h =
    let (a, load, ending) = then_ok (loaded cents book) (λ (x : Account Cents). planned x budget buffer) p h in
    let (layout, framed, filled) = then_ok (ok_or (layout_in book) Malformed) (λ (q : Layout). then (opened q.decisions) (λ (x : Account Cents). read_records cents x q.records)) a load in
    let (start, opens, reads) = then_ok (opened layout.decisions) (λ (x : Account Cents). read_records cents x layout.records) a filled in
    let (ds, decided, started) = then_ok (ok_or (decisions_in layout.decisions) Malformed) (λ (es : List Decision). refusal_or (open_refusal es) (Ok (fresh es))) start opens in
    let (free, is) = unless_ok (open_refusal ds) (Ok (fresh ds)) start started in
    let layout_is = some_ok (layout_in book) Malformed layout framed in
    let rest = adding cents layout.records (records_bytes book layout bytes layout_is) (fresh ds) a (ap (λ (x : Account Cents). read_records cents x layout.records) (ok_same (fresh ds) start is) ∙ reads) in
    let b = after cents a (run budget) in
    let found : Planned = record { outcome = outcome_of (made cents budget a) b; plan = told b buffer } in
    let (none, same) = unless_ok (option_or (refusal a (run budget)) (refusal b (best buffer))) (Ok found) p ending in
    let (fine, long) = option_or_none (refusal a (run budget)) (refusal b (best buffer)) none in
    subst (Called book budget buffer) (ok_same found p same)
    (record {
      layout = layout;
      decisions = ds;
      rules = rest.rules;
      state = b.state;
      cost = option_map (λ (x : Best Cents). x.cost) b.best;
      layout_is = layout_is;
      decisions_are = some_ok (decisions_in layout.decisions) Malformed ds decided;
      rules_are = rest.rules_are;
      opens = free;
      answers_are = rest.answers_are (run budget ∷ best buffer ∷ []) ∙ ap (λ (xs : List (Answer Cents)). map (λ (r : Rule). done) rest.rules ++ xs) (both_say a budget buffer fine long);
      cost_is = cost_told b.best;
      settled_is = refl;
      held_is = held_told b.best;
    })
