-- What a list of calls from an opening leaves held: rules, and adding those again makes the same book.
use Rattle.std.proofs.lemmas.Grind.{common_steps}
use Rattle.std.proofs.Common.{◌≡◌, ℕ, suc, ◌+◌, ◌<◌, ◌≤◌, List, [], ◌∷◌, ◌++◌, map, length, take, drop, None, sym, refl, ap, ◌∙◌, subst, arith, length-append, length-drop, length-take}
use mathlib.Core.List.{map-append}
use lib.ListN.{length-map}
use Rattle.std.proofs.ByRecursion.{All-append, All-push, All-weaker}
use Rattle.std.proofs.lemmas.List.{append-nil, append_assoc, map_push, take-map, drop-map}
use Rattle.std.proofs.lemmas.Bool.{leb-false}
use Rattle.std.specs.List.{remove, AllByRecursion}
use Rattle.measure.specs.Meaning.{Meaning}
use Rattle.rules.specs.Judging.{row_refusal}
use Rattle.rules.specs.Plans.{Book}
use Rattle.rules.specs.declared.decision.Decision.{Decision}
use Rattle.rules.specs.declared.row.Kind.{Kind}
use Rattle.rules.specs.declared.row.Kind.TheVariants.{Forbid, Activate, Price}
use Rattle.rules.specs.declared.row.Row.{Row}
use Rattle.rules.specs.declared.rule.Rule.{Rule}
use Rattle.rules.proofs.Grounds.{when_none, option_or_none}
use Rattle.account.specs.Accounts.{Account, fresh}
use Rattle.account.specs.Calls.{Call, add, withdraw, rank, run, best, exclusion, unexcluded, refusal, leaves, after, history}
use Rattle.account.specs.Changes.{held, with_rules, added, withdrawn}
use Rattle.account.proofs.Changed.{all_removed}
use Rattle.account.proofs.Histories.{advance_book}
use Rattle.book.specs.Laws.{Accepted, rows_of}

-- the row of a rule
abbrev pub row_of : Rule → Row
row_of r = r.row

-- a rule of a kind, which these decisions allow
pub record Allowed (ds : List Decision) (k : Kind) (r : Rule) : Type 0 where
  pub of_kind : r.row.kind ≡ k
  pub known : row_refusal ds r.row ≡ None

-- rows are those of rules of a kind, all allowed, no more than a table holds
pub record HeldRules (ds : List Decision) (k : Kind) (rows : List Row) : Type 0 where
  pub rules : List Rule
  pub rows_are : map row_of rules ≡ rows
  pub allowed : AllByRecursion (Allowed ds k) rules
  pub few : length rules ≤ 256

-- a book over these decisions holds such rows of each kind
pub record Holds (ds : List Decision) (b : Book) : Type 0 where
  pub decisions_are : b.decisions ≡ ds
  pub by_kind : (k : Kind) → HeldRules ds k (held b k)

module _ (ds : List Decision) (k : Kind) where
  held_none : HeldRules ds k []
  held_none = record { rules = []; rows_are = refl; allowed = tt; few = omega arith }

  held_push : (rows : List Row) → HeldRules ds k rows → (r : Rule) → Allowed ds k r → length rows < 256 → HeldRules ds k (rows ++ r.row ∷ [])
  held_push rows h r one room =
      record {
        rules = h.rules ++ r ∷ [];
        rows_are = map_push row_of h.rules r ∙ ap (λ (rs : List Row). rs ++ r.row ∷ []) h.rows_are;
        allowed = All-push (Allowed ds k) h.rules r h.allowed one;
        few = omega (arith, length-append h.rules (r ∷ []), length-map h.rules row_of, ap length h.rows_are);
      }

  held_removed : (rows : List Row) (n : ℕ) → HeldRules ds k rows → HeldRules ds k (remove rows n)
  held_removed rows n h =
      record {
        rules = remove h.rules n;
        rows_are =
            map-append row_of (take n h.rules) (drop (suc n) h.rules)
            ∙ ap (λ (rs : List Row). rs ++ map row_of (drop (suc n) h.rules)) (sym (take-map row_of n h.rules))
            ∙ ap (λ (rs : List Row). take n (map row_of h.rules) ++ rs) (sym (drop-map row_of (suc n) h.rules))
            ∙ ap (λ (rs : List Row). remove rs n) h.rows_are;
        allowed = all_removed (Allowed ds k) h.rules n h.allowed;
        few = omega (arith, length-append (take n h.rules) (drop (suc n) h.rules), length-take n h.rules, length-drop (suc n) h.rules, h.few);
      }

-- what holds of the rows of one kind, and of the others as they were
with_held : (P : Kind → List Row → Type 0) (b : Book) (k : Kind) (rows : List Row) → P k rows → ((j : Kind) → P j (held b j)) → (j : Kind) → P j (held (with_rules b k rows) j)
with_held P b Forbid rows new old Forbid = new
with_held P b Forbid rows new old Activate = old Activate
with_held P b Forbid rows new old Price = old Price
with_held P b Activate rows new old Forbid = old Forbid
with_held P b Activate rows new old Activate = new
with_held P b Activate rows new old Price = old Price
with_held P b Price rows new old Forbid = old Forbid
with_held P b Price rows new old Activate = old Activate
with_held P b Price rows new old Price = new

with_same_decisions : (b : Book) (k : Kind) (rows : List Row) → (with_rules b k rows).decisions ≡ b.decisions
with_same_decisions b Forbid rows = refl
with_same_decisions b Activate rows = refl
with_same_decisions b Price rows = refl

with_again : (b : Book) (k : Kind) (old new : List Row) → with_rules (with_rules b k old) k (held (with_rules b k old) k ++ new) ≡ with_rules b k (old ++ new)
with_again b Forbid old new = refl
with_again b Activate old new = refl
with_again b Price old new = refl

with_same : (b : Book) (k : Kind) (rows : List Row) → held (with_rules b k rows) k ≡ rows
with_same b Forbid rows = refl
with_same b Activate rows = refl
with_same b Price rows = refl

holds_with : (ds : List Decision) (b : Book) (k : Kind) (rows : List Row) → Holds ds b → HeldRules ds k rows → Holds ds (with_rules b k rows)
holds_with ds b k rows h new =
    record { decisions_are = with_same_decisions b k rows ∙ h.decisions_are; by_kind = with_held (HeldRules ds) b k rows new h.by_kind }

none_held : (ds : List Decision) (k : Kind) → HeldRules ds k (held (record { decisions = ds; forbids = []; activates = []; prices = [] }) k)
none_held ds Forbid = held_none ds Forbid
none_held ds Activate = held_none ds Activate
none_held ds Price = held_none ds Price

module _ {C : Type 0} (m : Meaning C) where
  -- what a change of rules does to the book
  pub added_book : (a : Account C) (k : Kind) (r : Row) → (added m a k r).book ≡ with_rules a.book k (held a.book k ++ r ∷ [])
  unfolding added
  added_book a Forbid r = refl
  added_book a Activate r = refl
  added_book a Price r = refl

  pub withdrawn_book : (a : Account C) (k : Kind) (n : ℕ) → (withdrawn m a k n).book ≡ with_rules a.book k (remove (held a.book k) n)
  unfolding withdrawn
  withdrawn_book a Forbid n = refl
  withdrawn_book a Activate n = refl
  withdrawn_book a Price n = refl

  module _ (ds : List Decision) where
    -- a new account holds no rule
    pub fresh_holds : Holds ds (fresh {C = C} ds).book
    fresh_holds = record { decisions_are = refl; by_kind = none_held ds }

    leaves_holds : (a : Account C) (c : Call) → Holds ds a.book → refusal a c ≡ None → Holds ds (leaves m a c).book
    leaves_holds a (add r) h none =
        let (known, room) = option_or_none _ _ none in
        let k = r.row.kind in
        let one : Allowed ds k r = record { of_kind = refl; known = subst (λ (es : List Decision). row_refusal es r.row ≡ None) h.decisions_are known } in
        let new = held_push ds k (held a.book k) (h.by_kind k) r one (leb-false 256 (length (held a.book k)) (when_none _ _ room)) in
        subst (Holds ds) (sym (added_book a k r.row)) (holds_with ds a.book k (held a.book k ++ r.row ∷ []) h new)
    leaves_holds a (withdraw k n) h none =
        subst (Holds ds) (sym (withdrawn_book a k n)) (holds_with ds a.book k (remove (held a.book k) n) h (held_removed ds k (held a.book k) n (h.by_kind k)))
    leaves_holds a (rank d n) h none = h
    leaves_holds a (run n) h none = subst (Holds ds) (sym (advance_book m n a)) h
    leaves_holds a (best bytes) h none = h
    leaves_holds a (exclusion d v) h none = h
    leaves_holds a (unexcluded d) h none = h

    -- a call keeps it so
    pub after_holds : (a : Account C) (c : Call) → Holds ds a.book → Holds ds (after m a c).book
    after_holds a c h = grind (arith, common_steps, leaves_holds)

    history_holds : (a : Account C) (cs : List Call) → Holds ds a.book → Holds ds (history m a cs).book
    history_holds a [] h = h
    history_holds a (c ∷ cs) h = history_holds (after m a c) cs (after_holds a c h)

    -- so after any list of calls on a new account
    pub calls_hold : (cs : List Call) → Holds ds (history m (fresh ds) cs).book
    calls_hold cs = history_holds (fresh ds) cs fresh_holds

  -- adding rules one by one is accepted, and makes a book
  pub record Adds (a : Account C) (rs : List Rule) (b : Book) : Type 0 where
    pub accepted : Accepted m a (map add rs)
    pub book_is : (history m a (map add rs)).book ≡ b

  adds_append : (a : Account C) (rs ss : List Rule) (b c : Book) → Adds a rs b → ((x : Account C) → x.book ≡ b → Adds x ss c) → Adds a (rs ++ ss) c
  adds_append a [] ss b c first more = more a first.book_is
  adds_append a (r ∷ rs) ss b c first more = grind (arith, common_steps, adds_append (after m a (add r)) rs ss b c (record { accepted = first.accepted.1; book_is = first.book_is }) more)

  -- an allowed rule is added where there is room
  add_one_more : (ds : List Decision) (k : Kind) (a : Account C) (r : Rule) → a.book.decisions ≡ ds → Allowed ds k r → length (held a.book k) < 256
      → (refusal a (add r) ≡ None) × ((after m a (add r)).book ≡ with_rules a.book k (held a.book k ++ r.row ∷ []))
  add_one_more ds k a r over one room = grind (arith, common_steps, held, added_book)

  -- allowed rules of one kind, added behind those held, where there is room for all
  pub adds_kind : (ds : List Decision) (k : Kind) (b : Book) → b.decisions ≡ ds → (old : List Row) (rs : List Rule) (a : Account C) → a.book ≡ with_rules b k old
      → AllByRecursion (Allowed ds k) rs → length old + length rs ≤ 256 → Adds a rs (with_rules b k (old ++ map row_of rs))
  adds_kind ds k b over old [] a is all room = record { accepted = tt; book_is = is ∙ ap (λ (rows : List Row). with_rules b k rows) (sym (append-nil old)) }
  adds_kind ds k b over old (r ∷ rs) a is all room =
      let places : length (held a.book k) < 256 = omega (arith, ap (λ (c : Book). length (held c k)) is, ap length (with_same b k old)) in
      let (none, next) = add_one_more ds k a r (ap (λ (c : Book). c.decisions) is ∙ with_same_decisions b k old ∙ over) all.0 places in
      let now_is : (after m a (add r)).book ≡ with_rules b k (old ++ r.row ∷ []) = next ∙ ap (λ (c : Book). with_rules c k (held c k ++ r.row ∷ [])) is ∙ with_again b k old (r.row ∷ []) in
      let rest = adds_kind ds k b over (old ++ r.row ∷ []) rs (after m a (add r)) now_is all.1 (omega (arith, length-append old (r.row ∷ []))) in
      record { accepted = (none, rest.accepted); book_is = rest.book_is ∙ ap (λ (rows : List Row). with_rules b k rows) (append_assoc old (r.row ∷ []) (map row_of rs)) }

-- the rules that a book holds, as they are written
abbrev pub rules_of : (ds : List Decision) (b : Book) → Holds ds b → List Rule
rules_of ds b h = (h.by_kind Forbid).rules ++ ((h.by_kind Activate).rules ++ (h.by_kind Price).rules)

-- their rows are the book's
pub rows_are : (ds : List Decision) (b : Book) (h : Holds ds b) → map row_of (rules_of ds b h) ≡ rows_of b
rows_are ds b h = grind (arith, common_steps)

-- what holds of every allowed rule holds of all that are held
pub all_rules : (ds : List Decision) (b : Book) (h : Holds ds b) (P : Rule → Type 0) → ((k : Kind) (r : Rule) → Allowed ds k r → P r) → AllByRecursion P (rules_of ds b h)
all_rules ds b h P each =
    All-append P (h.by_kind Forbid).rules ((h.by_kind Activate).rules ++ (h.by_kind Price).rules) (all Forbid)
    (All-append P (h.by_kind Activate).rules (h.by_kind Price).rules (all Activate) (all Price))
  where
    all : (k : Kind) → AllByRecursion P (h.by_kind k).rules
    all k = All-weaker (Allowed ds k) P (each k) (h.by_kind k).rules (h.by_kind k).allowed

-- there are at most three tables of them
pub rules_few : (ds : List Decision) (b : Book) (h : Holds ds b) → length (rules_of ds b h) ≤ 768
rules_few ds b h = grind (arith, common_steps)

same_books : (ds es : List Decision) (ws xs us vs ps qs : List Row) → ds ≡ es → ws ≡ xs → us ≡ vs → ps ≡ qs
    → ◌≡◌ {A = Book} (record { decisions = ds; forbids = ws; activates = us; prices = ps }) (record { decisions = es; forbids = xs; activates = vs; prices = qs })
same_books ds es ws xs us vs ps qs decisions forbids activates prices = cc

-- added to a new account over the same decisions, they make the book again
pub adds_again : {C : Type 0} (m : Meaning C) (ds : List Decision) (b : Book) (h : Holds ds b) → Adds m (fresh ds) (rules_of ds b h) b
adds_again {C} m ds b h =
    let fs = h.by_kind Forbid in
    let gs = h.by_kind Activate in
    let ps = h.by_kind Price in
    let none = (fresh {C = C} ds).book in
    let one = with_rules none Forbid (map row_of fs.rules) in
    let two = with_rules one Activate (map row_of gs.rules) in
    let three = with_rules two Price (map row_of ps.rules) in
    let made : Adds m (fresh ds) (rules_of ds b h) three = adds_append m (fresh ds) fs.rules (gs.rules ++ ps.rules) one three (adds_kind m ds Forbid none refl [] fs.rules (fresh ds) refl fs.allowed (omega (arith, fs.few)))
    (λ x e. adds_append m x gs.rules ps.rules two three (adds_kind m ds Activate one refl [] gs.rules x e gs.allowed (omega (arith, gs.few)))
    (λ y f. adds_kind m ds Price two refl [] ps.rules y f ps.allowed (omega (arith, ps.few)))) in
    record { accepted = made.accepted; book_is = made.book_is ∙ same_books _ _ _ _ _ _ _ _ (sym h.decisions_are) fs.rows_are gs.rows_are ps.rows_are }
