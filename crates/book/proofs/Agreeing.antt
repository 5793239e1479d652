-- Load agrees with open and adds: what a text of decisions and rules is loaded as, or its fault.
use Rattle.std.proofs.lemmas.Grind.{common_steps}
use Rattle.std.proofs.Common.{◌≡◌, ℕ, suc, ◌+◌, Bool, true, false, ◌||◌, List, [], ◌∷◌, ◌++◌, map, length, Some, None, Option, Result, sym, refl, ap, ◌∙◌, append_assoc, append-nil, add-zero, arith}
use Rattle.std.specs.Option.{option_map, option_or}
use Rattle.std.specs.List.{AllByRecursion}
use Rattle.std.proofs.lemmas.Bool.{and_right, le-leb}
use Rattle.measure.specs.Meaning.{Meaning}
use Rattle.rules.specs.Judging.{open_refusal}
use Rattle.rules.specs.declared.decision.Decision.{Decision}
use Rattle.rules.specs.declared.refusal.Refusal.{Refusal}
use Rattle.rules.specs.declared.row.Row.{Row}
use Rattle.rules.specs.declared.rule.Rule.{Rule}
use Rattle.rules.proofs.Recomposing.{rule_accepted, rule_composed}
use Rattle.account.specs.Accounts.{Account, fresh}
use Rattle.account.specs.Calls.{add, add_refusal, after, after_if}
use Rattle.account.specs.Changes.{added}
use Rattle.rendering.specs.Texts.{decision_line}
use Rattle.statements.specs.Lines.{lines_of}
use Rattle.statements.specs.Statements.{decides, fault, unless}
use Rattle.statements.specs.declared.fault.Fault.{Fault}
use Rattle.grammar.specs.Grammar.{ended_lines}
use Rattle.grammar.proofs.Joins.{Lacks}
use Rattle.grammar.proofs.Texts.{line_lacks, lines_from}
use Rattle.book.specs.Laws.{AgreesWithCalls, BytePaired, ByteSized, added_from, opened_from, stated_by}
use Rattle.book.specs.Loads.{carried, load_lines, statement_refusal}
use Rattle.book.proofs.LoadSteps.{lines_end, small_enough}
use Rattle.book.proofs.Linewise.{load_text}
use Rattle.book.proofs.Rulings.{rule_lines, stated_fits, stated_rule}

-- no line of these has a byte 10
decisions_lack : (ds : List Decision) → AllByRecursion ByteSized ds → AllByRecursion (Lacks 10) (map decision_line ds)
decisions_lack [] h = tt
decisions_lack (d ∷ ds) h = (line_lacks (decides d) (le-leb d.size 255 h.0), decisions_lack ds h.1)

rules_lack : (rs : List Rule) → AllByRecursion BytePaired rs → AllByRecursion (Lacks 10) (rule_lines rs)
rules_lack [] h = tt
rules_lack (r ∷ rs) h = (line_lacks (stated_rule r) (stated_fits r h.0), rules_lack rs h.1)

-- the lines of the text of decisions and rules
pub lines_stated : (ds : List Decision) (rs : List Rule) → AllByRecursion ByteSized ds → AllByRecursion BytePaired rs → lines_of (stated_by ds rs) ≡ ended_lines 1 (map decision_line ds ++ rule_lines rs)
lines_stated ds rs sizes pairs = grind (arith, common_steps, lines_from, decisions_lack, rules_lack)

-- one error before another
unless_twice : {X E : Type 0} (o p : Option E) (r : Result X E) → unless o (unless p r) ≡ unless (option_or o p) r
unless_twice (Some e) p r = refl
unless_twice None p r = refl

module _ {C : Type 0} (m : Meaning C) where
  -- the lines of decisions, and those behind them
  pub load_decisions : (ds : List Decision) → AllByRecursion ByteSized ds → (n : ℕ) (before : List Decision) (ls : List (List ℕ)) → load_lines m false (fresh before) (ended_lines n (map decision_line ds ++ ls)) ≡ unless (opened_from m n before ds) (load_lines m false (fresh (before ++ ds)) (ended_lines (n + length ds) ls))
  load_decisions [] h n before ls = rw (append-nil, add-zero)
  load_decisions (d ∷ ds) h n before ls =
      let here = option_map (λ (e : Refusal). fault e n 1) (open_refusal (before ++ d ∷ [])) in
      let more = before ++ d ∷ [] in
      let count : n + 1 + length ds ≡ n + suc (length ds) = omega arith in
      load_text m false (fresh before) n (ended_lines (n + 1) (map decision_line ds ++ ls)) (decides d) (le-leb d.size 255 h.0) refl
      ∙ ap (unless here) (load_decisions ds h.1 (n + 1) more ls)
      ∙ unless_twice here (opened_from m (n + 1) more ds) (load_lines m false (fresh (more ++ ds)) (ended_lines (n + 1 + length ds) ls))
      ∙ ap (λ (k : ℕ). unless (opened_from m n before (d ∷ ds)) (load_lines m false (fresh (more ++ ds)) (ended_lines k ls))) count
      ∙ ap (λ (es : List Decision). unless (opened_from m n before (d ∷ ds)) (load_lines m false (fresh es) (ended_lines (n + suc (length ds)) ls))) (append_assoc before (d ∷ []) ds)

  -- what follows an add that is not refused follows the account that it leaves
  follows : {X E : Type 0} (a : Account C) (r : Rule) (f : Refusal → E) (g : Account C → Result X E) (o : Option Refusal) → unless (option_map f o) (g (added m a r.row.kind r.row)) ≡ unless (option_map f o) (g (after_if m a (add r) o))
  follows a r f g (Some e) = refl
  follows a r f g None = refl

  -- why a rule's line is refused: as add refuses the rule
  refusal_of : (a : Account C) (r : Rule) → statement_refusal a (stated_rule r) ≡ add_refusal a r.row
  refusal_of a r = grind (arith, common_steps, rule_accepted, rule_composed)

  -- the lines of rules
  pub load_rules : (rs : List Rule) → AllByRecursion BytePaired rs → (began : Bool) (n : ℕ) (a : Account C) → load_lines m began a (ended_lines n (rule_lines rs)) ≡ added_from m n a rs
  load_rules [] h began n a = lines_end m began a [] refl
  load_rules (r ∷ rs) h began n a =
      let at : Refusal → Fault = λ e. fault e n 1 in
      let ls = ended_lines (n + 1) (rule_lines rs) in
      let next : Account C → Result (Account C) Fault = λ b. load_lines m (began || true) b ls in
      load_text m began a n ls (stated_rule r) (stated_fits r h.0) (and_right began false refl)
      ∙ ap (λ (o : Option Refusal). unless (option_map at o) (next (carried m a (stated_rule r)))) (refusal_of a r)
      ∙ ap (λ (w : Row). unless (option_map at (add_refusal a r.row)) (next (added m a r.row.kind w))) (sym (rule_composed r))
      ∙ follows a r at next (add_refusal a r.row)
      ∙ ap (unless (option_map at (add_refusal a r.row))) (load_rules rs h.1 (began || true) (n + 1) (after m a (add r)))

  -- the law
  pub agrees : (text : List ℕ) → AgreesWithCalls m text
  agrees text ds rs text_is short sizes pairs = grind (arith, common_steps, small_enough, lines_stated, load_decisions, rule_lines, load_rules)
