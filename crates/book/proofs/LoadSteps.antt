-- Loading a text, line by line.
use Rattle.std.proofs.lemmas.Grind.{common_steps}
use Rattle.std.proofs.lemmas.Grind.{common_steps}
use Rattle.std.proofs.Common.{arith}
use Rattle.std.proofs.Common.{◌≡◌, ℕ, ◌<◌, ◌≤◌, Bool, true, false, ◌||◌, ltb, List, [], ◌∷◌, length, is_err, Some, None, Ok, Err, Option, Result, sym, refl, ap, ◌∙◌}
use Rattle.std.specs.Option.{option_map}
use Rattle.std.proofs.lemmas.Bool.{cond-false, cond-true, le-ltb, lt-ltb}
use Rattle.measure.specs.Meaning.{Meaning}
use Rattle.rules.specs.Refusals.{as_result, unless_refused}
use Rattle.rules.specs.declared.refusal.Refusal.{Refusal}
use Rattle.rules.specs.declared.refusal.Refusal.TheVariants.{BookTooLarge}
use Rattle.account.specs.Accounts.{Account, fresh}
use Rattle.statements.specs.Lines.{TextLine, lines_of}
use Rattle.statements.specs.Statements.{Stated, fault, read_line, then, unless}
use Rattle.statements.specs.Views.{on_ok}
use Rattle.statements.specs.declared.fault.Fault.{Fault}
use Rattle.book.specs.Loads.{carried, is_rule, left_by, load_lines, loaded, obeyed, statement_refusal, verdict}
use Rattle.book.specs.Steps.{line_step}

no_ground : (o : Option Refusal) (u : Unit {0}) → Ok u ≡ as_result o → o ≡ None
no_ground (Some e) u h = cc
no_ground None u h = refl

module _ {C : Type 0} (m : Meaning C) (began : Bool) (a : Account C) (l : TextLine) where
  -- the rest of a line's step, once it is read
  abbrev carried_on : Stated → Result (Bool × Account C) Fault
  carried_on s = then (obeyed m l.number a s) (λ b. Ok (began || is_rule s, b))

  pub line_unread : (e : Fault) → read_line began l ≡ Err e → line_step m began a l ≡ Err e
  unfolding line_step
  line_unread e h = ap (λ (r : Result Stated Fault). then r carried_on) h

  line_read : (s : Stated) → read_line began l ≡ Ok s → line_step m began a l ≡ carried_on s
  unfolding line_step
  line_read s h = ap (λ (r : Result Stated Fault). then r carried_on) h

  obeyed_not : (o : Option Refusal) (b : Account C) (r : Refusal) → Err r ≡ as_result o → unless (option_map (λ e. fault e l.number 1) o) (Ok b) ≡ Err (fault r l.number 1)
  obeyed_not (Some e) b r h = let q : e ≡ r = cc in ap (λ (x : Refusal). Err (fault x l.number 1)) q
  obeyed_not None b r h = cc

  pub line_refused : (s : Stated) (r : Refusal) → Ok s ≡ read_line began l → Err r ≡ as_result (statement_refusal a s) → line_step m began a l ≡ Err (fault r l.number 1)
  line_refused s r h k =
      line_read s (sym h) ∙ ap (λ (x : Result (Account C) Fault). then x (λ b. Ok (began || is_rule s, b))) (obeyed_not (statement_refusal a s) (carried m a s) r k)

  pub line_done : (s : Stated) (u : Unit {0}) (t : Bool) (b : Account C) → Ok s ≡ read_line began l → Ok u ≡ as_result (statement_refusal a s) → b ≡ unless_refused (statement_refusal a s) a (carried m a s) → t ≡ (began || is_rule s) → Ok (t, b) ≡ line_step m began a l
  line_done s u t b h k e f =
      let none = no_ground (statement_refusal a s) u k in
      let is : b ≡ carried m a s = e ∙ ap (λ (o : Option Refusal). unless_refused o a (carried m a s)) none in
      sym
      (line_read s (sym h)
      ∙ ap (λ (o : Option Refusal). then (unless (option_map (λ e. fault e l.number 1) o) (Ok (carried m a s))) (λ b. Ok (began || is_rule s, b))) none
      ∙ ap (λ (x : Account C). Ok (began || is_rule s, x)) (sym is) ∙ ap (λ (x : Bool). Ok (x, b)) (sym f))

  module _ (rest : List TextLine) where
    -- what the lines after this one make of its step
    abbrev gone_on : Bool × Account C → Result (Account C) Fault
    gone_on p = load_lines m p.0 p.1 rest

    one_line : load_lines m began a (l ∷ rest) ≡ then (line_step m began a l) gone_on
    unfolding load_lines line_step
    one_line = grind (arith, common_steps)

    pub lines_stop : (ls : List TextLine) (e : Fault) → ls ≡ l ∷ rest → line_step m began a l ≡ Err e → load_lines m began a ls ≡ Err e
    lines_stop ls e is h = ap (load_lines m began a) is ∙ one_line ∙ ap (λ (x : Result (Bool × Account C) Fault). then x gone_on) h

    pub lines_go_on : (ls : List TextLine) (t : Bool) (b : Account C) → ls ≡ l ∷ rest → line_step m began a l ≡ Ok (t, b) → load_lines m began a ls ≡ load_lines m t b rest
    lines_go_on ls t b is h = ap (load_lines m began a) is ∙ one_line ∙ ap (λ (x : Result (Bool × Account C) Fault). then x gone_on) h

module _ {C : Type 0} (m : Meaning C) where
  pub lines_end : (began : Bool) (a : Account C) (ls : List TextLine) → ls ≡ [] → load_lines m began a ls ≡ Ok a
  unfolding load_lines
  lines_end began a ls e = ap (load_lines m began a) e

  module _ (text : List ℕ) (large : 65536 < length text) where
    too_large : loaded m text ≡ Err (fault BookTooLarge 1 1)
    unfolding loaded
    too_large = cond-true (ltb 65536 (length text)) _ _ (lt-ltb 65536 (length text) large)

    pub large_verdict : Err (fault BookTooLarge 1 1) ≡ verdict (loaded m text)
    large_verdict = sym (ap verdict too_large)

    pub large_left : fresh [] ≡ left_by (loaded m text)
    large_left = sym (ap left_by too_large)

  pub small_enough : (text : List ℕ) → length text ≤ 65536 → loaded m text ≡ load_lines m false (fresh []) (lines_of text)
  unfolding loaded
  small_enough text h = cond-false (ltb 65536 (length text)) _ _ (le-ltb 65536 (length text) h)

  -- a load's answer, and what it leaves, by the result of its lines
  module _ (text : List ℕ) (a b : Account C) (r : Result (Unit {0}) Fault) (lines : on_ok (λ u. b) r ≡ load_lines m false a (lines_of text)) (clear : a ≡ fresh []) (small : length text ≤ 65536) where
    loaded_is : on_ok (λ u. b) r ≡ loaded m text
    loaded_is = lines ∙ ap (λ (x : Account C). load_lines m false x (lines_of text)) clear ∙ sym (small_enough text small)

    pub lines_verdict : r ≡ verdict (loaded m text)
    lines_verdict = grind (arith, common_steps, loaded_is)

    pub refused_left : is_err r ≡ true → fresh [] ≡ left_by (loaded m text)
    refused_left h = grind (arith, common_steps, loaded_is)

    pub accepted_left : is_err r ≡ false → b ≡ left_by (loaded m text)
    accepted_left h = grind (arith, common_steps, loaded_is)
