-- Reading the rules of a book.
use Rattle.std.proofs.Common.{◌≡◌, ℕ, ◌+◌, ◌<◌, ◌≤◌, List, length, get_or, drop, Some, None, Ok, Err, Option, Result, sym, ap, ◌∙◌}
use Rattle.std.proofs.lemmas.List.{at_drop_all, at_drop_more}
use Rattle.std.specs.Option.{ok_or, option_or}
use Rattle.measure.specs.Meaning.{Meaning}
use Rattle.rules.specs.Compose.{compose_refusal, composed}
use Rattle.rules.specs.Conditions.{condition}
use Rattle.rules.specs.declared.refusal.Refusal.{Refusal}
use Rattle.rules.specs.declared.row.Row.{Row}
use Rattle.rules.specs.declared.rule.Rule.{Rule}
use Rattle.account.specs.Accounts.{Account}
use Rattle.account.specs.Calls.{add, add_refusal, answer, answer_if, refused}
use Rattle.account.specs.Changes.{added}
use Rattle.engine.specs.Answered.{read_record, read_records, with_rule, then, refusal_or}
use Rattle.engine.specs.Stated.{row_in}
use Rattle.engine.specs.declared.fault.Fault.{Fault}
use Rattle.engine.specs.declared.fault.Fault.TheVariants.{Malformed, Refused}

module _ {C : Type 0} (m : Meaning C) (a : Account C) where
  refused_on : (r : Rule) (e : Refusal) (o : Option Refusal) → refused e ≡ answer_if m a (add r) o → o ≡ Some e
  refused_on r e (Some f) h = cc
  refused_on r e None h = cc

  -- a rule that is composed, and then refused
  pub add_refused : (bytes : List ℕ) (row : Row) (r : Rule) (e : Refusal)
      → Some row ≡ row_in bytes → compose_refusal row.kind (condition row) row.price ≡ None → r.row ≡ composed row.kind (condition row) row.target row.price → refused e ≡ answer m a (add r)
      → Err (Refused e) ≡ read_record m a bytes
  add_refused bytes row r e stated accepted is answers =
      let made = composed row.kind (condition row) row.target row.price in
      let ground : add_refusal a made ≡ Some e = ap (add_refusal a) (sym is) ∙ refused_on r e (add_refusal a r.row) answers in
      let left : Account C = added m a row.kind made in
      sym
      (ap (λ (o : Option Row). then (ok_or o Malformed) (with_rule m a)) (sym stated)
      ∙ ap (λ (o : Option Refusal). refusal_or (option_or o (add_refusal a made)) (Ok left)) accepted
      ∙ ap (λ (o : Option Refusal). refusal_or o (Ok left)) ground)

  module _ (rs : List (List ℕ)) (i : ℕ) (r : List ℕ) (l : i < length rs) where
    next : read_records m a (drop i rs) ≡ then (read_record m a (get_or rs i r)) (λ b. read_records m b (drop (i + 1) rs))
    unfolding read_records
    next = at_drop_more (read_records m a) rs i r l

    pub stops : (e : Fault) → Err e ≡ read_record m a (get_or rs i r) → read_records m a (drop i rs) ≡ Err e
    stops e h = next ∙ ap (λ (x : Result (Account C) Fault). then x (λ b. read_records m b (drop (i + 1) rs))) (sym h)

    pub goes_on : (b : Account C) → Ok b ≡ read_record m a (get_or rs i r) → read_records m a (drop i rs) ≡ read_records m b (drop (i + 1) rs)
    goes_on b h = next ∙ ap (λ (x : Result (Account C) Fault). then x (λ b. read_records m b (drop (i + 1) rs))) (sym h)

  pub ends : (rs : List (List ℕ)) (i : ℕ) → length rs ≤ i → read_records m a (drop i rs) ≡ Ok a
  unfolding read_records
  ends rs i h = at_drop_all (read_records m a) rs i h
