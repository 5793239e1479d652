-- A text that is accepted states decisions and rules: it is read as those.
use Rattle.std.proofs.lemmas.Grind.{common_steps}
use Rattle.std.proofs.Common.{arith}
use Rattle.std.proofs.Common.{◌≡◌, ℕ, Bool, true, false, cond, ltb, List, [], ◌∷◌, ◌++◌, map, length, None, Ok, Err, Result, sym, refl, ap, ◌∙◌, subst, append-nil}
use Rattle.std.proofs.lemmas.Bool.{and_from, true≢false}
use Rattle.measure.specs.Meaning.{Meaning}
use Rattle.measure.specs.declared.price.Price.{Price}
use Rattle.rules.specs.Compose.{compose_refusal, composed}
use Rattle.rules.specs.Judging.{open_refusal}
use Rattle.rules.specs.declared.decision.Decision.{Decision}
use Rattle.rules.specs.declared.literal.Literal.{Literal}
use Rattle.rules.specs.declared.refusal.Refusal.TheVariants.{BookTooLarge}
use Rattle.rules.specs.declared.row.Kind.{Kind}
use Rattle.rules.specs.declared.row.Row.{Row}
use Rattle.rules.specs.declared.rule.Rule.{Rule}
use Rattle.account.specs.Accounts.{Account, fresh}
use Rattle.account.specs.Calls.{add, add_refusal, after, after_if, history}
use Rattle.account.specs.Changes.{added}
use Rattle.rendering.specs.Texts.{decision_line, ended, rule_line}
use Rattle.statements.specs.Lines.{TextLine, lines_of}
use Rattle.statements.specs.Statements.{Stated, decides, fault, rules}
use Rattle.grammar.specs.Grammar.{all_ended}
use Rattle.rules.proofs.Grounds.{option_or_none}
use Rattle.grammar.proofs.Forms.{err_ok}
use Rattle.grammar.proofs.Texts.{text_of_lines}
use Rattle.book.specs.Laws.{Accepted, ReadAsStated}
use Rattle.book.specs.Loads.{load_lines, loaded}
use Rattle.book.proofs.LoadSteps.{lines_end}
use Rattle.book.proofs.Linewise.{Obeyed, line_obeyed}
use Rattle.book.proofs.Rulings.{composed_line, rule_of, rule_lines}

-- the bytes of lines
abbrev bytes_of : List TextLine → List (List ℕ)
bytes_of ls = map (λ (l : TextLine). l.bytes) ls

-- parts that are the same make the same
joined : (l l' : List ℕ) (ls ls' : List (List ℕ)) → l ≡ l' → ls ≡ ls' → l ∷ ls ≡ l' ∷ ls'
joined l l' ls ls' p q = cc

ok_same : {X E : Type 0} (x y : X) → ◌≡◌ {A = Result X E} (Ok x) (Ok y) → x ≡ y
ok_same x y e = cc

-- a result that is there has no error before it
no_error : {X E : Type 0} (t : Bool) (d : E) (r : Result X E) (x : X) → cond t (Err d) r ≡ Ok x → r ≡ Ok x
no_error true d r x e = absurd (err_ok d x e)
no_error false d r x e = e

module _ {C : Type 0} (m : Meaning C) where
  -- lines that state rules, which lead from an account to another
  record Adding (ls : List TextLine) (a b : Account C) : Type 0 where
    stated : List Rule
    lines_are : bytes_of ls ≡ rule_lines stated
    are_ended : all_ended ls ≡ true
    adds : Accepted m a (map add stated)
    account_is : b ≡ history m a (map add stated)

  -- lines that state decisions behind others, then rules
  record Opening (ls : List TextLine) (before : List Decision) (b : Account C) : Type 0 where
    decided : List Decision
    stated : List Rule
    lines_are : bytes_of ls ≡ map decision_line decided ++ rule_lines stated
    are_ended : all_ended ls ≡ true
    opens : open_refusal (before ++ decided) ≡ None
    adds : Accepted m (fresh (before ++ decided)) (map add stated)
    account_is : b ≡ history m (fresh (before ++ decided)) (map add stated)

  -- a line that states a rule, before lines that state rules
  module _ (began : Bool) (a : Account C) (l : TextLine) (ls : List TextLine) (b : Account C) (k : Kind) (ps : List Literal) (t : ℕ) (price : Price) (o : Obeyed m began a l ls b (rules k ps t price)) where
    rule_first : Adding ls (added m a k (composed k ps t price)) b → Adding (l ∷ ls) a b
    rule_first rest =
        let grounds = option_or_none (compose_refusal k ps price) (add_refusal a (composed k ps t price)) o.accepted in
        let made = rule_of k ps t price o.fits grounds.0 in
        let r = made.0 in
        let is = made.1 in
        let accepted : add_refusal a r.row ≡ None = ap (add_refusal a) is ∙ grounds.1 in
        let left : added m a k (composed k ps t price) ≡ after m a (add r) =
        ap (λ (w : Row). added m a w.kind w) (sym is) ∙ ap (after_if m a (add r)) (sym accepted) in
        record {
          stated = r ∷ rest.stated;
          lines_are = joined _ _ _ _ (o.bytes_are ∙ composed_line k ps t price ∙ ap rule_line (sym is)) rest.lines_are;
          are_ended = and_from l.ended (all_ended ls) o.is_ended rest.are_ended;
          adds = (accepted, subst (λ (c : Account C). Accepted m c (map add rest.stated)) left rest.adds);
          account_is = rest.account_is ∙ ap (λ (c : Account C). history m c (map add rest.stated)) left;
        }

  adding_next : (l : TextLine) (ls : List TextLine) (a b : Account C) → ((c : Account C) → load_lines m true c ls ≡ Ok b → Adding ls c b) → (s : Stated) → Obeyed m true a l ls b s → Adding (l ∷ ls) a b
  adding_next l ls a b later (decides d) o = absurd (true≢false o.in_order)
  adding_next l ls a b later (rules k ps t price) o = rule_first true a l ls b k ps t price o (later (added m a k (composed k ps t price)) o.rest)

  -- no line
  no_line : (began : Bool) (a b : Account C) → load_lines m began a [] ≡ Ok b → Adding [] a b
  no_line began a b e = record { stated = []; lines_are = refl; are_ended = refl; adds = tt; account_is = ok_same b a (sym e ∙ lines_end m began a [] refl) }

  -- behind a rule, lines state rules
  adding : (ls : List TextLine) (a b : Account C) → load_lines m true a ls ≡ Ok b → Adding ls a b
  adding [] a b e = no_line true a b e
  adding (l ∷ ls) a b e = let o = line_obeyed m true a l ls b e in adding_next l ls a b (λ c. adding ls c b) o.0 o.1

  -- no decision more, and one before others
  no_decision : (ls : List TextLine) (before : List Decision) (b : Account C) → open_refusal before ≡ None → Adding ls (fresh before) b → Opening ls before b
  no_decision ls before b started rest =
      let same : before ≡ before ++ [] = sym (append-nil before) in
      record {
        decided = [];
        stated = rest.stated;
        lines_are = rest.lines_are;
        are_ended = rest.are_ended;
        opens = ap open_refusal (append-nil before) ∙ started;
        adds = subst (λ (ds : List Decision). Accepted m (fresh ds) (map add rest.stated)) same rest.adds;
        account_is = rest.account_is ∙ ap (λ (ds : List Decision). history m (fresh ds) (map add rest.stated)) same;
      }

  decision_first : (l : TextLine) (ls : List TextLine) (before : List Decision) (b : Account C) (d : Decision) → l.bytes ≡ decision_line d → l.ended ≡ true → Opening ls (before ++ d ∷ []) b → Opening (l ∷ ls) before b
  decision_first l ls before b d bytes end rest = grind (arith, common_steps)

  opening_next : (l : TextLine) (ls : List TextLine) (before : List Decision) (b : Account C) → open_refusal before ≡ None → ((es : List Decision) → open_refusal es ≡ None → load_lines m false (fresh es) ls ≡ Ok b → Opening ls es b) → (s : Stated) → Obeyed m false (fresh before) l ls b s → Opening (l ∷ ls) before b
  opening_next l ls before b started later (decides d) o = decision_first l ls before b d o.bytes_are o.is_ended (later (before ++ d ∷ []) o.accepted o.rest)
  opening_next l ls before b started later (rules k ps t price) o =
      no_decision (l ∷ ls) before b started
      (rule_first false (fresh before) l ls b k ps t price o (adding ls (added m (fresh before) k (composed k ps t price)) b o.rest))

  -- before the first rule, lines state decisions, then rules
  opening : (ls : List TextLine) (before : List Decision) (b : Account C) → open_refusal before ≡ None → load_lines m false (fresh before) ls ≡ Ok b → Opening ls before b
  opening [] before b started e = no_decision [] before b started (no_line false (fresh before) b e)
  opening (l ∷ ls) before b started e =
      let o = line_obeyed m false (fresh before) l ls b e in
      opening_next l ls before b started (λ es. opening ls es b) o.0 o.1

  -- the law
  pub read_as_stated : (text : List ℕ) → ReadAsStated m text
  unfolding loaded
  read_as_stated text a e =
      let o = opening (lines_of text) [] a refl (no_error (ltb 65536 (length text)) (fault BookTooLarge 1 1) (load_lines m false (fresh []) (lines_of text)) a e) in
      record {
        decisions = o.decided;
        rules = o.stated;
        text_is = text_of_lines text o.are_ended ∙ ap ended o.lines_are;
        opens = o.opens;
        adds = o.adds;
        account_is = o.account_is;
      }
