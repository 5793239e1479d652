-- Every list of calls leaves a sound account over the same decisions.
use Rattle.std.proofs.lemmas.Grind.{common_steps}
use Rattle.std.proofs.lemmas.Grind.{common_steps}
use Rattle.std.proofs.Common.{◌≡◌, ℕ, zero, suc, ◌<◌, ◌≤◌, List, [], ◌∷◌, length, None, refl, ap, ◌∙◌, arith}
use Rattle.std.proofs.lemmas.List.{length-take}
use Rattle.measure.specs.Meaning.{Meaning}
use Rattle.measure.proofs.Laws.{Laws}
use Rattle.rules.specs.Conditions.{condition}
use Rattle.rules.specs.Judging.{row_refusal}
use Rattle.rules.specs.Plans.{Book}
use Rattle.rules.specs.declared.decision.Decision.{Decision}
use Rattle.rules.specs.declared.row.Kind.{Kind}
use Rattle.rules.specs.declared.row.Kind.TheVariants.{Forbid, Activate, Price}
use Rattle.rules.specs.declared.row.Row.{Row}
use Rattle.rules.specs.declared.rule.Rule.{Rule}
use Rattle.rules.proofs.Grounds.{option_or_none}
use Rattle.account.specs.Accounts.{Account, chosen, fresh}
use Rattle.account.specs.Calls.{Call, add, withdraw, rank, run, best, exclusion, unexcluded, refusal, leaves, after, history}
use Rattle.account.specs.Changes.{added, withdrawn}
use Rattle.account.specs.Steps.{extend, conclude, step, advance}
use Rattle.account.proofs.Changed.{added_sound, withdrawn_sound}
use Rattle.account.proofs.Sound.{Sound}
use Rattle.account.proofs.Steady.{advance_sound}

-- the target of an activate rule that is not refused is a decision
pub target_known : (ds : List Decision) (r : Row) → row_refusal ds r ≡ None → r.kind ≡ Activate → r.target < length ds
target_known ds r h e = grind (arith, common_steps)

-- a rule has a pair
pub rule_some : (r : Rule) → 1 ≤ length (condition r.row)
rule_some r = rw (length-take r.row.count r.row.pairs) (omega (arith, r.some, r.full))

module _ {C : Type 0} (m : Meaning C) where
  extend_book : (a : Account C) (d : ℕ) → (extend m a d).book ≡ a.book
  unfolding extend
  extend_book a d = grind (arith, common_steps)

  conclude_book : (a : Account C) → (conclude m a).book ≡ a.book
  unfolding conclude
  conclude_book a = grind (arith, common_steps)

  -- a step leaves the book
  pub step_book : (a : Account C) → (step m a).book ≡ a.book
  unfolding step
  step_book a = grind (arith, common_steps, chosen, conclude_book, extend_book)

  pub advance_book : (n : ℕ) (a : Account C) → (advance m n a).book ≡ a.book
  advance_book zero a = refl
  advance_book (suc n) a = grind (arith, common_steps, advance_book n a, step_book)

  added_decisions : (a : Account C) (k : Kind) (r : Row) → (added m a k r).book.decisions ≡ a.book.decisions
  unfolding added
  added_decisions a Forbid r = refl
  added_decisions a Activate r = refl
  added_decisions a Price r = refl

  withdrawn_decisions : (a : Account C) (k : Kind) (n : ℕ) → (withdrawn m a k n).book.decisions ≡ a.book.decisions
  unfolding withdrawn
  withdrawn_decisions a Forbid n = refl
  withdrawn_decisions a Activate n = refl
  withdrawn_decisions a Price n = refl

  leaves_decisions : (a : Account C) (c : Call) → (leaves m a c).book.decisions ≡ a.book.decisions
  leaves_decisions a (add r) = added_decisions a r.row.kind r.row
  leaves_decisions a (withdraw k n) = withdrawn_decisions a k n
  leaves_decisions a (rank d n) = refl
  leaves_decisions a (run n) = ap (λ (b : Book). b.decisions) (advance_book n a)
  leaves_decisions a (best b) = refl
  leaves_decisions a (exclusion d v) = refl
  leaves_decisions a (unexcluded d) = refl

  -- a call leaves the decisions
  pub after_decisions : (a : Account C) (c : Call) → (after m a c).book.decisions ≡ a.book.decisions
  after_decisions a c = grind (arith, common_steps, leaves_decisions)

  pub history_decisions : (a : Account C) (cs : List Call) → (history m a cs).book.decisions ≡ a.book.decisions
  history_decisions a [] = refl
  history_decisions a (c ∷ cs) = history_decisions (after m a c) cs ∙ after_decisions a c

  -- a new account is sound
  pub fresh_sound : (ds : List Decision) → Sound m (fresh ds)
  fresh_sound ds = grind (arith, common_steps)

  module _ (laws : Laws m) where
    leaves_sound : (a : Account C) (c : Call) → Sound m a → refusal a c ≡ None → Sound m (leaves m a c)
    leaves_sound a (add r) s h = added_sound m laws a s r.row.kind r.row (rule_some r) (target_known a.book.decisions r.row (option_or_none _ _ h).0)
    leaves_sound a (withdraw k n) s h = withdrawn_sound m laws a s k n
    leaves_sound a (rank d n) s h = grind (arith, common_steps)
    leaves_sound a (run n) s h = advance_sound m laws n a s
    leaves_sound a (best b) s h = s
    leaves_sound a (exclusion d v) s h = s
    leaves_sound a (unexcluded d) s h = s

    -- a call keeps an account sound
    pub after_sound : (a : Account C) (c : Call) → Sound m a → Sound m (after m a c)
    after_sound a c s = grind (arith, common_steps, leaves_sound)

    -- so does a list of calls
    pub history_sound : (a : Account C) (cs : List Call) → Sound m a → Sound m (history m a cs)
    history_sound a [] s = s
    history_sound a (c ∷ cs) s = history_sound (after m a c) cs (after_sound a c s)
