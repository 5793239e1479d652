-- Small texts: loaded and planned, by computing; of the runs, only those steps are computed that are made until the plan is settled.
use Rattle.std.proofs.Common.{◌≡◌, ℕ, zero, suc, ◌+◌, ◌<◌, Bool, false, ltb, List, [], ◌∷◌, length, Ok, replicate, refl, sym, ap, ◌∙◌, zero-add, lit≤}
use Rattle.std.proofs.lemmas.Bool.{lt-ltb}
use Rattle.std.proofs.lemmas.Option.{none-some}
use Rattle.std.specs.Fmt.{digits}
use Rattle.measure.specs.Meaning.{Meaning}
use Rattle.measure.specs.Supplied.{cents, pair_of, tier}
use Rattle.measure.specs.declared.cents.Cents.{Cents}
use Rattle.measure.specs.declared.pair.Pair.{Pair}
use Rattle.measure.specs.declared.tier.Tier.{Tier}
use Rattle.rules.specs.Refusals.{when}
use Rattle.rules.specs.declared.refusal.Refusal.TheVariants.{BookTooLarge, BudgetTooLarge, UnknownValue}
use Rattle.account.specs.Accounts.{Account, fresh}
use Rattle.account.specs.Calls.{after, after_if, history, run}
use Rattle.account.specs.Changes.{added}
use Rattle.account.specs.Worked.{decisions, forbid, on, pair, rules}
use Rattle.account.specs.Steps.{advance, conclude, extend, kept, retreat, step, test, tested}
use Rattle.account.specs.declared.state.State.TheVariants.{Settled}
use Rattle.planner.proofs.Called.{settled_stays}
use Rattle.reading.specs.Numbers.{number_up_to}
use Rattle.reading.specs.Pieces.{pieces}
use Rattle.statements.specs.Fields.{first_bad}
use Rattle.statements.specs.Forms.{pair_of as pair_read}
use Rattle.statements.specs.Lines.{numbered}
use Rattle.statements.specs.Statements.{read_activate, read_decision, read_forbid, read_line, read_pairs, read_price}
use Rattle.rendering.specs.Texts.{choice_line, decision_line, fault_line, outcome_text, pair_text, parts_line}
use Rattle.book.specs.Loads.{load_lines, loaded}
use Rattle.book.specs.Outcomes.{account_text, after_runs, planned_text}
use Rattle.book.specs.Shown.{LeavingsShown, LoadsShown, PlansShown, TextsPlanned, WordsShown, faulty, hopeless, planned, read, worked}

loads_shown : LoadsShown
unfolding loaded load_lines numbered first_bad number_up_to pair_read pieces read_activate read_decision read_forbid read_line read_pairs read_price added
loads_shown =
    record {
      worked_book = refl;
      nothing = refl;
      value = refl;
      size = refl;
      form = refl;
      kind = refl;
      late = refl;
      endless = refl;
      pairs = refl;
      order = refl;
      cents = refl;
      decision = refl;
      large = large;
    }
  where
    large : (text : List ℕ) → 65536 < length text → read text ≡ faulty BookTooLarge 1 1
    large text h = rw (lt-ltb 65536 (length text) h) refl

module _ {C : Type 0} (m : Meaning C) where
  -- an accepted run of a settled planner leaves it
  run_stays : (n : ℕ) (a : Account C) → ltb 1000000 n ≡ false → a.state ≡ Settled → after m a (run n) ≡ a
  run_stays n a few h =
      ap (λ (t : Bool). after_if m a (run n) (when t BudgetTooLarge)) few ∙ ap (λ (k : ℕ). advance m k a) (sym (zero-add n)) ∙ (settled_stays m a 0 n h).0

  runs_stay : (runs n : ℕ) (a : Account C) → ltb 1000000 n ≡ false → a.state ≡ Settled → history m a (replicate runs (run n)) ≡ a
  runs_stay zero n a few h = refl
  runs_stay (suc runs) n a few h = ap (λ (b : Account C). history m b (replicate runs (run n))) (run_stays n a few h) ∙ runs_stay runs n a few h

  -- a planner that is settled after k steps is as it was then after all runs
  settled_runs : (runs k j n : ℕ) (a : Account C) → k + j ≡ n → ltb 1000000 n ≡ false → (advance m k a).state ≡ Settled → after_runs m (suc runs) n a ≡ advance m k a
  unfolding after_runs
  settled_runs runs k j n a e few h =
      ap (λ (t : Bool). history m (after_if m a (run n) (when t BudgetTooLarge)) (replicate runs (run n))) few
      ∙ ap (λ (b : Account C). history m b (replicate runs (run n))) (ap (λ (i : ℕ). advance m i a) (sym e) ∙ (settled_stays m a k j h).0)
      ∙ runs_stay runs n (advance m k a) few h

abbrev measure : Meaning (Pair Tier Cents)
measure = pair_of tier cents

-- the text of a plan, by the account that is loaded and the steps after which it is settled
planned_in : (k j : ℕ) (text : List ℕ) (a : Account (Pair Tier Cents)) → k + j ≡ 100000 → loaded measure text ≡ Ok a → (advance measure k a).state ≡ Settled → planned text ≡ account_text (advance measure k a)
planned_in k j text a e loads h = ap (planned_text measure) loads ∙ ap account_text (settled_runs measure 99 k j 100000 a e refl h)

plans_shown : PlansShown
unfolding loaded load_lines numbered first_bad number_up_to pair_read pieces read_activate read_decision read_forbid read_line read_pairs read_price added step test tested kept retreat extend conclude digits fault_line outcome_text choice_line
plans_shown =
    record {
      worked_book = planned_in 13 99987 worked (history measure (fresh decisions) rules) refl refl refl;
      nothing = planned_in 1 99999 [] (fresh []) refl refl refl;
      hopeless_book = planned_in 1 99999 hopeless (history measure (fresh (on 1 ∷ [])) (forbid (pair 0 1) ∷ [])) refl refl refl;
      refused = refl;
    }

leavings_shown : LeavingsShown
unfolding loaded load_lines numbered first_bad number_up_to pieces read_decision read_line added digits pair_text decision_line parts_line
leavings_shown = record { loaded_broken = refl; planned_broken = refl; written = refl }

words_shown : WordsShown
unfolding added
words_shown =
    record {
      largest_size = lit≤ tt;
      largest_pair = ((lit≤ tt, lit≤ tt), tt);
      refused = λ h. none-some UnknownValue (sym h.1.0);
    }

pub texts_planned : TextsPlanned
texts_planned = record { loads = loads_shown; plans = plans_shown; leavings = leavings_shown; words = words_shown }
