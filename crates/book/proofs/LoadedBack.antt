-- What is written of a planner is loaded as the same decisions and rules, if a text is loaded as its calls.
use Rattle.std.proofs.lemmas.Grind.{common_steps}
use Rattle.std.proofs.Common.{◌≡◌, ℕ, ◌+◌, List, [], ◌∷◌, ◌++◌, map, length, None, Ok, Option, sym, refl, ap, ◌∙◌, subst, ap₂, arith}
use Rattle.std.proofs.lemmas.List.{append_assoc}
use Rattle.std.specs.Option.{option_map, option_or}
use Rattle.measure.specs.Meaning.{Meaning}
use Rattle.rules.specs.Judging.{open_refusal}
use Rattle.rules.specs.Plans.{Book}
use Rattle.rules.specs.declared.decision.Decision.{Decision}
use Rattle.rules.specs.declared.refusal.Refusal.{Refusal}
use Rattle.rules.specs.declared.rule.Rule.{Rule}
use Rattle.account.specs.Accounts.{Account, fresh}
use Rattle.account.specs.Calls.{add, after_if, history, refusal}
use Rattle.rendering.specs.Texts.{book_text}
use Rattle.statements.specs.Statements.{fault, unless}
use Rattle.statements.specs.declared.fault.Fault.{Fault}
use Rattle.book.specs.Laws.{Accepted, LoadsBack, added_from, opened_from, rows_of, stated_by}
use Rattle.book.specs.Loads.{loaded}
use Rattle.book.proofs.Agreeing.{agrees}
use Rattle.book.proofs.Fitting.{sizes_fit}
use Rattle.book.proofs.Holding.{Holds, adds_again, calls_hold, rows_are, rules_of}
use Rattle.book.proofs.Sizes.{held_fits, held_short}

-- the first of accepted decisions are accepted
pub front_accepted : (ds es : List Decision) → open_refusal (ds ++ es) ≡ None → open_refusal ds ≡ None
front_accepted ds es h = grind (arith, common_steps)

module _ {C : Type 0} (m : Meaning C) where
  -- accepted decisions are opened one by one
  pub opened_none : (n : ℕ) (before ds : List Decision) → open_refusal (before ++ ds) ≡ None → opened_from m n before ds ≡ None
  opened_none n before [] h = refl
  opened_none n before (d ∷ ds) h =
      let all = subst (λ (es : List Decision). open_refusal es ≡ None) (sym (append_assoc before (d ∷ []) ds)) h in
      ap (λ (o : Option Refusal). option_or (option_map (λ (r : Refusal). fault r n 1) o) (opened_from m (n + 1) (before ++ d ∷ []) ds)) (front_accepted (before ++ d ∷ []) ds all)
      ∙ opened_none (n + 1) (before ++ d ∷ []) ds all

  -- accepted rules are added one by one
  pub added_ok : (n : ℕ) (a : Account C) (rs : List Rule) → Accepted m a (map add rs) → added_from m n a rs ≡ Ok (history m a (map add rs))
  added_ok n a [] h = refl
  added_ok n a (r ∷ rs) h = grind (arith, common_steps, added_ok (n + 1) (after_if m a (add r) (refusal a (add r))) rs h.1)

  -- the text of a book that is held is loaded as a planner of the same book
  pub held_loads : (ds : List Decision) (b : Book) → open_refusal ds ≡ None → Holds ds b
      → (a : Account C) × (loaded m (book_text b.decisions (rows_of b)) ≡ Ok a) × (a.book ≡ b)
  held_loads ds b opens h =
      let rs = rules_of ds b h in
      let adds = adds_again m ds b h in
      let same : book_text b.decisions (rows_of b) ≡ stated_by ds rs = ap₂ book_text h.decisions_are (sym (rows_are ds b h)) in
      let loads : loaded m (stated_by ds rs) ≡ Ok (history m (fresh ds) (map add rs)) = agrees m (stated_by ds rs) ds rs refl (held_short ds b opens h) (sizes_fit ds opens) (held_fits ds b opens h)
      ∙ ap (λ (o : Option Fault). unless o (added_from m (length ds + 1) (fresh ds) rs)) (opened_none 1 [] ds opens)
      ∙ added_ok (length ds + 1) (fresh ds) rs adds.accepted in
      (history m (fresh ds) (map add rs), ap (loaded m) same ∙ loads, adds.book_is)

  -- so is what is written of a planner, whatever was called on it
  pub loads_back : LoadsBack m
  loads_back ds opens calls = held_loads ds (history m (fresh ds) calls).book opens (calls_hold m ds calls)
