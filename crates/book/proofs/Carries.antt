-- A rule composed and then added, and what the planner answers to it.
use Rattle.std.proofs.lemmas.Grind.{common_steps}
use Rattle.std.proofs.Common.{arith}
use Rattle.std.specs.Option.{option_or}
use Rattle.std.proofs.Common.{◌≡◌, ℕ, List, Some, None, Ok, Err, Option, Result, sym, refl, ap, ◌∙◌}
use Rattle.measure.specs.Meaning.{Meaning}
use Rattle.measure.specs.declared.price.Price.{Price}
use Rattle.rules.specs.Compose.{compose_refusal, composed}
use Rattle.rules.specs.Refusals.{as_result, unless_refused}
use Rattle.rules.specs.declared.literal.Literal.{Literal}
use Rattle.rules.specs.declared.refusal.Refusal.{Refusal}
use Rattle.rules.specs.declared.row.Kind.{Kind}
use Rattle.rules.specs.declared.rule.Rule.{Rule}
use Rattle.account.specs.Accounts.{Account}
use Rattle.account.specs.Calls.{add, add_refusal, after, after_if, answer, answer_if}
use Rattle.account.specs.Changes.{added}
use Rattle.planner.specs.Answers.{says_done}

module _ {C : Type 0} (m : Meaning C) (a : Account C) (r : Rule) where
  said : (x : Result (Unit {0}) Refusal) (o : Option Refusal) → says_done x ≡ answer_if m a (add r) o → x ≡ as_result o
  said (Ok u) None h = refl
  said (Ok u) (Some e) h = cc
  said (Err f) None h = cc
  said (Err f) (Some e) h = cc

  left : (o : Option Refusal) → after_if m a (add r) o ≡ unless_refused o a (added m a r.row.kind r.row)
  left (Some e) = refl
  left None = refl

  module _ (k : Kind) (ps : List Literal) (t : ℕ) (price : Price) (accepted : compose_refusal k ps price ≡ None) (is : r.row ≡ composed k ps t price) where
    ground : add_refusal a r.row ≡ option_or (compose_refusal k ps price) (add_refusal a (composed k ps t price))
    ground = ap (add_refusal a) is ∙ ap (λ (o : Option Refusal). option_or o (add_refusal a (composed k ps t price))) (sym accepted)

    pub composed_says : (x : Result (Unit {0}) Refusal) → says_done x ≡ answer m a (add r) → x ≡ as_result (option_or (compose_refusal k ps price) (add_refusal a (composed k ps t price)))
    composed_says x h = said x (add_refusal a r.row) h ∙ ap as_result ground

    pub composed_leaves : after m a (add r) ≡ unless_refused (option_or (compose_refusal k ps price) (add_refusal a (composed k ps t price))) a (added m a k (composed k ps t price))
    composed_leaves = grind (arith, common_steps, left, is, k, t, ground)
