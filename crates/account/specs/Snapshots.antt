-- Small books, each with the trail, the exclusions, the best and the state that an account has after some calls, written out: which rule each shows stands above it. All follow by computing from the definitions.
use Rattle.std.specs.Prelude.{◌≡◌, ℕ, Bool, true, false, List, [], ◌∷◌, ◌++◌, map, length, filter, Some, None, Option, refl}
use Rattle.std.specs.List.{flat_map, range_with_len}
use Rattle.std.specs.Option.{option_map}
use Rattle.measure.specs.Supplied.{cents}
use Rattle.measure.specs.declared.cents.Cents.{Cents}
use Rattle.rules.specs.Plans.{Set, size_at}
use Rattle.rules.specs.declared.decision.Decision.{Decision}
use Rattle.rules.specs.declared.literal.Literal.{Literal}
use Rattle.rules.specs.declared.row.Kind.TheVariants.{Forbid, Activate, Price as Priced}
use Rattle.account.specs.Accounts.{Account, Exclusion, fresh}
use Rattle.account.specs.Calls.{Answer, Call, withdraw, rank, run, best, unexcluded, refused, done, ran, reported, excluded, counted, answer, history, steps_since}
use Rattle.account.specs.Worked.{activate, charge, charge_both, decisions, excludes, forbid, forbid_both, off, on, pair, rules}
use Rattle.account.specs.declared.state.State.{State}
use Rattle.account.specs.declared.state.State.TheVariants.{Open, Settled}

-- an entry of the trail: a choice, and the decisions of its support
pub record Chosen : Type 0 where
  pub choice : Literal
  pub support : List ℕ

-- an exclusion: a value, the decisions of its reason, and whether it rests on the best
pub record Barred : Type 0 where
  pub choice : Literal
  pub reason : List ℕ
  pub rests : Bool

-- what an account in cents holds: the trail with the newest choice first, the exclusions by decision and value, the best's values and cents, the state
pub record Snapshot : Type 0 where
  pub trail : List Chosen
  pub exclusions : List Barred
  pub best : Option (List ℕ × ℕ)
  pub state : State

-- the decisions below n of a set
abbrev pub members : ℕ → Set → List ℕ
members n s = filter s (range_with_len 0 n)

abbrev pub barred : ℕ → ℕ → ℕ → Option Exclusion → List Barred
barred n d v None = []
barred n d v (Some e) = record { choice = pair d v; reason = members n e.reason; rests = e.rests } ∷ []

-- the exclusions of the values 1 to the size of a decision, and those of every decision
abbrev pub barred_of : Account Cents → ℕ → List Barred
barred_of a d = flat_map (λ v. barred (length a.book.decisions) d v (a.exclusions d v)) (range_with_len 1 (size_at a.book.decisions d))

abbrev pub barred_in : Account Cents → List Barred
barred_in a = flat_map (barred_of a) (range_with_len 0 (length a.book.decisions))

abbrev pub snapshot_of : Account Cents → Snapshot
snapshot_of a =
    let n = length a.book.decisions in
    record {
      trail = map (λ e. record { choice = pair e.decision e.value; support = members n e.support }) a.trail;
      exclusions = barred_in a;
      best = option_map (λ b. (map b.plan (range_with_len 0 n), b.cost.sum)) a.best;
      state = a.state;
    }

-- what is held after calls from an opening
abbrev pub holds : List Decision → List Call → Snapshot
holds ds cs = snapshot_of (history cents (fresh ds) cs)

-- shorter: a choice with its support; a value with its reason, which rests on the best or does not
abbrev pub by : ℕ → ℕ → List ℕ → Chosen
by d v s = record { choice = pair d v; support = s }

abbrev pub barring : ℕ → ℕ → List ℕ → Barred
barring d v s = record { choice = pair d v; reason = s; rests = false }

abbrev pub resting : ℕ → ℕ → List ℕ → Barred
resting d v s = record { choice = pair d v; reason = s; rests = true }

abbrev pub showing : List Chosen → List Barred → Option (List ℕ × ℕ) → State → Snapshot
showing trail exclusions held state = record { trail = trail; exclusions = exclusions; best = held; state = state }

-- steps
pub record StepsShown : Type 0 where
  -- the lowest rank is picked, then the lowest number; ranks are 0 at first, and a change of rules leaves them
  pub ranks : holds (on 1 ∷ on 1 ∷ on 1 ∷ []) (rank 0 1 ∷ rank 2 0 ∷ activate (pair 1 1) 0 refl ∷ run 2 ∷ []) ≡ showing (by 2 1 [] ∷ by 1 1 [] ∷ []) [] None Open
  -- any rank counts by its number, and from when it is set
  pub rank_numbers : holds (on 1 ∷ on 1 ∷ on 1 ∷ []) (rank 0 9 ∷ rank 1 255 ∷ rank 2 8 ∷ run 2 ∷ []) ≡ showing (by 0 1 [] ∷ by 2 1 [] ∷ []) [] None Open
  pub rank_between : holds (on 1 ∷ on 1 ∷ on 1 ∷ []) (run 1 ∷ rank 1 1 ∷ run 1 ∷ []) ≡ showing (by 2 1 [] ∷ by 0 1 [] ∷ []) [] None Open
  -- the support is that of the first met activate rule with this target, and nobody for a decision that is marked on
  pub supports : holds (on 2 ∷ on 1 ∷ off 1 ∷ []) (activate (pair 0 2) 2 refl ∷ activate (pair 0 1) 1 refl ∷ activate (pair 1 1) 2 refl ∷ activate (pair 0 1) 2 refl ∷ run 3 ∷ []) ≡ showing (by 2 1 (1 ∷ []) ∷ by 1 1 [] ∷ by 0 1 [] ∷ []) [] None Open
  -- the first forbidding rule in place order excludes, by its other decisions
  pub first_rule : holds (on 2 ∷ on 2 ∷ []) (forbid_both (pair 0 1) (pair 1 1) refl ∷ forbid (pair 1 1) ∷ run 2 ∷ []) ≡ showing (by 1 2 [] ∷ by 0 1 [] ∷ []) (barring 1 1 (0 ∷ []) ∷ []) None Open
  -- a dead end blames all reasons of the decision: the latest blamed entry leaves, the rest of the blame is why its value is excluded, and what named it goes
  pub dead_end : holds (on 2 ∷ on 2 ∷ on 2 ∷ []) (forbid_both (pair 0 1) (pair 2 1) refl ∷ forbid_both (pair 1 1) (pair 2 2) refl ∷ run 3 ∷ []) ≡ showing (by 0 1 [] ∷ []) (barring 1 1 (0 ∷ []) ∷ barring 2 1 (0 ∷ []) ∷ []) None Open
  -- with an entry those leave whose support lost a decision, and so on; others stay
  pub followers : holds (on 2 ∷ off 1 ∷ off 1 ∷ on 1 ∷ []) (activate (pair 0 1) 1 refl ∷ activate (pair 1 1) 2 refl ∷ charge (pair 0 1) 0 5 refl ∷ run 5 ∷ []) ≡ showing (by 3 1 [] ∷ []) (resting 0 1 [] ∷ []) (Some (1 ∷ 1 ∷ 1 ∷ 1 ∷ [], 5)) Open
  -- a value that has an exclusion is not tested again; the forbid rules are asked before the cost
  pub tests : holds (on 2 ∷ on 1 ∷ []) (forbid_both (pair 0 2) (pair 1 1) refl ∷ charge_both (pair 0 1) (pair 1 1) refl 3 refl ∷ charge_both (pair 0 2) (pair 1 1) refl 5 refl ∷ run 6 ∷ []) ≡ showing [] (resting 0 1 [] ∷ barring 0 2 [] ∷ []) (Some (1 ∷ 1 ∷ [], 3)) Open
  pub tested_once : holds (on 2 ∷ on 1 ∷ []) (forbid_both (pair 0 1) (pair 1 1) refl ∷ charge (pair 0 2) 0 3 refl ∷ run 6 ∷ []) ≡ showing (by 1 1 [] ∷ []) (barring 0 1 [] ∷ resting 0 2 [] ∷ []) (Some (2 ∷ 1 ∷ [], 3)) Settled
  -- the kept price rules give the reason: one is dropped if those kept before it and those after it still reach the best's cost
  pub kept_rules : holds (on 1 ∷ on 2 ∷ on 1 ∷ on 2 ∷ []) (charge (pair 1 2) 0 5 refl ∷ charge (pair 3 2) 0 5 refl ∷ charge (pair 1 1) 0 2 refl ∷ charge (pair 3 1) 0 5 refl ∷ charge_both (pair 0 1) (pair 3 2) refl 1 refl ∷ charge (pair 2 1) 0 4 refl ∷ run 10 ∷ []) ≡ showing (by 1 2 [] ∷ by 0 1 [] ∷ []) (resting 1 1 [] ∷ resting 2 1 (1 ∷ []) ∷ []) (Some (1 ∷ 1 ∷ 1 ∷ 1 ∷ [], 11)) Open
  -- a refused call leaves all as it was
  pub refused_stays : holds (on 1 ∷ on 1 ∷ on 1 ∷ []) (rank 0 1 ∷ run 1 ∷ rank 3 0 ∷ run 1000001 ∷ withdraw Forbid 0 ∷ run 1 ∷ []) ≡ showing (by 2 1 [] ∷ by 1 1 [] ∷ []) [] None Open
  -- what is settled keeps its trail, and stays settled whatever is ranked
  pub settled : holds (on 1 ∷ []) (run 2 ∷ rank 0 7 ∷ []) ≡ showing (by 0 1 [] ∷ []) [] (Some (1 ∷ [], 0)) Settled

-- a book to change, after four steps: with exclusions of each sort, a trail and a best
abbrev pub some_decisions : List Decision
some_decisions = on 4 ∷ on 2 ∷ off 1 ∷ []

abbrev pub some_calls : List Call
some_calls =
    forbid_both (pair 0 2) (pair 1 1) refl ∷ forbid (pair 0 3) ∷ activate (pair 0 2) 2 refl ∷ activate (pair 0 4) 2 refl ∷ charge (pair 1 2) 0 3 refl
    ∷ charge (pair 0 1) 0 5 refl ∷ run 4 ∷ []

-- what is held after one change more, or after further calls
abbrev pub then_holds : List Call → Snapshot
then_holds cs = holds some_decisions (some_calls ++ cs)

-- an accepted change empties the trail and opens; exclusions with a reason go, and of the others those that the change may have made false
pub record ChangesHeld : Type 0 where
  pub before : then_holds [] ≡ showing (by 0 4 [] ∷ by 1 1 [] ∷ []) (resting 0 1 [] ∷ barring 0 2 (1 ∷ []) ∷ barring 0 3 [] ∷ []) (Some (1 ∷ 1 ∷ 0 ∷ [], 5)) Open
  -- a forbid rule more: the best stays if it does not meet the rule; else it goes, and what rests on it
  pub forbid_unmet : then_holds (forbid (pair 0 4) ∷ []) ≡ showing [] (resting 0 1 [] ∷ barring 0 3 [] ∷ []) (Some (1 ∷ 1 ∷ 0 ∷ [], 5)) Open
  pub forbid_met : then_holds (forbid (pair 1 1) ∷ []) ≡ showing [] (barring 0 3 [] ∷ []) None Open
  -- a price rule more: the best stays at its new cost; if it meets the rule, what rests on it goes
  pub price_unmet : then_holds (charge (pair 1 2) 0 3 refl ∷ []) ≡ showing [] (resting 0 1 [] ∷ barring 0 3 [] ∷ []) (Some (1 ∷ 1 ∷ 0 ∷ [], 5)) Open
  pub price_met : then_holds (charge (pair 1 1) 0 3 refl ∷ []) ≡ showing [] (barring 0 3 [] ∷ []) (Some (1 ∷ 1 ∷ 0 ∷ [], 8)) Open
  -- an activate rule more: no exclusion stays, and the best if it is still lawful
  pub activate_lawful : then_holds (activate (pair 1 2) 2 refl ∷ []) ≡ showing [] [] (Some (1 ∷ 1 ∷ 0 ∷ [], 5)) Open
  pub activate_met : then_holds (activate (pair 1 1) 0 refl ∷ []) ≡ showing [] [] (Some (1 ∷ 1 ∷ 0 ∷ [], 5)) Open
  pub activate_unlawful : then_holds (activate (pair 1 1) 2 refl ∷ []) ≡ showing [] [] None Open
  -- a forbid rule less: no exclusion stays, the best does; the rule at the place is gone
  pub forbid_less : then_holds (withdraw Forbid 1 ∷ []) ≡ showing [] [] (Some (1 ∷ 1 ∷ 0 ∷ [], 5)) Open
  pub forbid_gone : then_holds (withdraw Forbid 1 ∷ run 1 ∷ []) ≡ showing (by 0 2 [] ∷ []) (resting 0 1 [] ∷ []) (Some (1 ∷ 1 ∷ 0 ∷ [], 5)) Open
  -- a price rule less: what rests on the best goes, and the best stays at its new cost
  pub price_less : then_holds (withdraw Priced 1 ∷ []) ≡ showing [] (barring 0 3 [] ∷ []) (Some (1 ∷ 1 ∷ 0 ∷ [], 0)) Open
  -- an activate rule less: no exclusion stays, and the best if it is still lawful; the rule at the place is gone
  pub activate_less : then_holds (withdraw Activate 0 ∷ []) ≡ showing [] [] (Some (1 ∷ 1 ∷ 0 ∷ [], 5)) Open
  pub activate_gone : then_holds (withdraw Activate 1 ∷ run 3 ∷ []) ≡ showing (by 2 1 (0 ∷ []) ∷ by 1 2 [] ∷ by 0 2 [] ∷ []) (resting 0 1 [] ∷ barring 0 3 [] ∷ barring 1 1 (0 ∷ []) ∷ []) (Some (1 ∷ 1 ∷ 0 ∷ [], 5)) Open
  pub activate_needed : holds (on 1 ∷ off 1 ∷ []) (activate (pair 0 1) 1 refl ∷ run 3 ∷ withdraw Activate 0 ∷ []) ≡ showing [] [] None Open
  pub activate_twice : holds (on 1 ∷ off 1 ∷ []) (activate (pair 0 1) 1 refl ∷ activate (pair 0 1) 1 refl ∷ run 3 ∷ withdraw Activate 0 ∷ []) ≡ showing [] [] (Some (1 ∷ 1 ∷ [], 0)) Open
  -- an exclusion goes whichever decision its reason names
  pub reasons_go : holds (on 2 ∷ on 2 ∷ []) (forbid_both (pair 0 1) (pair 1 1) refl ∷ run 2 ∷ charge (pair 1 2) 0 3 refl ∷ []) ≡ showing [] [] None Open

-- the answer of an exclusion as a snapshot has it: the decisions of the reason, and the mark
abbrev pub answered : Answer Cents → Option (List ℕ × Bool)
answered (excluded (Some e)) = Some (members 64 e.reason, e.rests)
answered (excluded None) = None
answered (refused e) = None
answered done = None
answered (ran k s) = None
answered (reported s c b) = None
answered (counted k) = None

-- what is asked after the four steps, and the steps counted since the latest change of rules
pub record AnswersShown : Type 0 where
  pub reason : answered (excludes cents some_decisions some_calls 0 2) ≡ Some (1 ∷ [], false)
  pub resting_reason : answered (excludes cents some_decisions some_calls 0 1) ≡ Some ([], true)
  pub no_reason : excludes cents some_decisions some_calls 0 4 ≡ excluded None
  pub free_values : answer cents (history cents (fresh some_decisions) some_calls) (unexcluded 0) ≡ counted 1
  pub all_free : answer cents (history cents (fresh some_decisions) some_calls) (unexcluded 1) ≡ counted 2
  -- refused calls and calls that change no rule count on; an accepted add or withdraw starts anew
  pub counted_on : steps_since cents 0 (fresh decisions) (rules ++ run 4 ∷ rank 2 0 ∷ withdraw Priced 8 ∷ run 100 ∷ best (9 ∷ 9 ∷ 9 ∷ []) ∷ run 5 ∷ []) ≡ 15
  pub counted_anew : steps_since cents 0 (fresh decisions) (rules ++ run 15 ∷ forbid (pair 0 1) ∷ run 3 ∷ []) ≡ 1
  pub counted_from : steps_since cents 0 (fresh decisions) (rules ++ run 15 ∷ withdraw Priced 1 ∷ []) ≡ 0

-- all of them
pub record SnapshotsShown : Type 0 where
  pub steps : StepsShown
  pub changes : ChangesHeld
  pub answers : AnswersShown
