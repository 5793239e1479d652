-- What one line does where lines are loaded.
use Rattle.std.proofs.lemmas.Grind.{common_steps}
use Rattle.std.proofs.Common.{arith}
use Rattle.std.proofs.Common.{◌≡◌, ℕ, Bool, true, false, ◌&&◌, ◌||◌, List, ◌∷◌, Some, None, Ok, Option, Result, sym, refl, ◌∙◌}
use Rattle.std.specs.Option.{option_map}
use Rattle.measure.specs.Meaning.{Meaning}
use Rattle.rules.specs.declared.refusal.Refusal.{Refusal}
use Rattle.account.specs.Accounts.{Account}
use Rattle.statements.specs.Lines.{TextLine}
use Rattle.statements.specs.Statements.{Stated, fault, read_line, then, unless}
use Rattle.statements.specs.declared.fault.Fault.{Fault}
use Rattle.grammar.specs.Grammar.{fitting, is_decided, line_text}
use Rattle.grammar.proofs.Forms.{mapped_none, then_ok, unless_ok}
use Rattle.grammar.proofs.Lines.{reads_only_text, text_is_read}
use Rattle.book.specs.Loads.{carried, is_rule, load_lines, obeyed, statement_refusal}

-- what follows from a result that may be refused
then_unless : {X Y E : Type 0} (o : Option E) (x : X) (f : X → Result Y E) → then (unless o (Ok x)) f ≡ unless o (f x)
then_unless (Some e) x f = refl
then_unless None x f = refl

module _ {C : Type 0} (m : Meaning C) where
  -- a line that states s, and those behind it
  pub load_stated : (began : Bool) (a : Account C) (l : TextLine) (ls : List TextLine) (s : Stated) → read_line began l ≡ Ok s → load_lines m began a (l ∷ ls) ≡ unless (option_map (λ (e : Refusal). fault e l.number 1) (statement_refusal a s)) (load_lines m (began || is_rule s) (carried m a s) ls)
  unfolding load_lines
  load_stated began a l ls s e = grind (arith, common_steps)

  -- the line of an s that fits, and those behind it
  pub load_text : (began : Bool) (a : Account C) (n : ℕ) (ls : List TextLine) (s : Stated) → fitting s ≡ true → (began && is_decided s) ≡ false → load_lines m began a (record { bytes = line_text s; number = n; ended = true } ∷ ls) ≡ unless (option_map (λ (e : Refusal). fault e n 1) (statement_refusal a s)) (load_lines m (began || is_rule s) (carried m a s) ls)
  load_text began a n ls s fit order = load_stated began a _ ls s (text_is_read s fit began order n)

  -- what a line says that is read and carried out, as those behind it are
  pub record Obeyed (began : Bool) (a : Account C) (l : TextLine) (ls : List TextLine) (b : Account C) (s : Stated) : Type 0 where
    pub bytes_are : l.bytes ≡ line_text s
    pub is_ended : l.ended ≡ true
    pub fits : fitting s ≡ true
    pub in_order : (began && is_decided s) ≡ false
    pub accepted : statement_refusal a s ≡ None
    pub rest : load_lines m (began || is_rule s) (carried m a s) ls ≡ Ok b

  -- lines that are loaded: the first is read and carried out
  pub line_obeyed : (began : Bool) (a : Account C) (l : TextLine) (ls : List TextLine) (b : Account C) → load_lines m began a (l ∷ ls) ≡ Ok b → (s : Stated) × Obeyed began a l ls b s
  unfolding load_lines
  line_obeyed began a l ls b e =
      let read = then_ok (read_line began l) (λ s. then (obeyed m l.number a s) (λ b. load_lines m (began || is_rule s) b ls)) b e in
      let s = read.0 in
      let says = reads_only_text began l s read.1.0 in
      let at : ℕ → Refusal → Fault = λ n e. fault e n 1 in
      let done = unless_ok (option_map (at l.number) (statement_refusal a s)) (load_lines m (began || is_rule s) (carried m a s) ls) b
      (sym (then_unless (option_map (at l.number) (statement_refusal a s)) (carried m a s) (λ b. load_lines m (began || is_rule s) b ls)) ∙ read.1.1) in (
        s,
        record {
          bytes_are = says.0;
          is_ended = says.1;
          fits = says.2;
          in_order = says.3;
          accepted = mapped_none (at l.number) (statement_refusal a s) done.0;
          rest = done.1;
        },
      )
