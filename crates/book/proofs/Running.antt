-- Runs, one after the other.
use Rattle.std.proofs.Common.{◌≡◌, ℕ, zero, suc, ◌+◌, Result, Ok, Err, IsOk, replicate, sym, refl, ap, ◌∙◌, add-one}
use Rattle.measure.specs.Meaning.{Meaning}
use Rattle.account.specs.Accounts.{Account}
use Rattle.account.specs.Calls.{Call, after, answer, history, run}
use Rattle.account.specs.declared.state.State.{State}
use Rattle.rules.specs.declared.refusal.Refusal.{Refusal}
use Rattle.planner.specs.Answers.{says_ran}
use Rattle.book.specs.Outcomes.{after_runs}

module _ {C : Type 0} (m : Meaning C) where
  -- a call made once more
  once_more : (c : Call) (n : ℕ) (a : Account C) → history m a (replicate (suc n) c) ≡ after m (history m a (replicate n c)) c
  once_more c zero a = refl
  once_more c (suc n) a = once_more c n (after m a c)

  pub no_runs : (steps : ℕ) (a : Account C) → a ≡ after_runs m 0 steps a
  unfolding after_runs
  no_runs steps a = refl

  pub one_run : (n steps : ℕ) (a b d : Account C) → b ≡ after_runs m n steps a → d ≡ after m b (run steps) → d ≡ after_runs m (n + 1) steps a
  unfolding after_runs
  one_run n steps a b d e h =
      h ∙ ap (λ (x : Account C). after m x (run steps)) e ∙ sym (once_more (run steps) n a) ∙ ap (λ (k : ℕ). history m a (replicate k (run steps))) (sym (add-one n))

  -- a budget of so many steps is not refused
  pub never_refused : (a : Account C) (x : Result (ℕ × State) Refusal) → says_ran x ≡ answer m a (run 100000) → IsOk x
  never_refused a (Ok r) h = refl
  never_refused a (Err e) h = cc
