-- Worked cases: small books with the answers that a planner gives over them, and judge of plans. All follow by computing from the definitions.
use Rattle.std.specs.Prelude.{◌≡◌, ℕ, nat_le, Bool, true, false, ◌&&◌, List, [], ◌∷◌, ◌++◌, Some, None, Ok, Err, Option, Result, refl}
use Rattle.std.specs.List.{flat_map}
use Rattle.std.proofs.Common.{ap, lit≤}
use Rattle.std.proofs.Math.Dec.{leb-zero}
use Rattle.measure.specs.Meaning.{Meaning}
use Rattle.measure.specs.Supplied.{cents, tier}
use Rattle.measure.specs.declared.cents.Cents.{Cents}
use Rattle.measure.specs.declared.tier.Tier.{Tier}
use Rattle.measure.specs.declared.price.Price.{Price}
use Rattle.rules.specs.Compose.{ascends, composed, free, in_range, is_exact}
use Rattle.rules.specs.Conditions.{plan_of}
use Rattle.rules.specs.Plans.{Book, is_lawful, cost}
use Rattle.rules.specs.Verdicts.{answer_of}
use Rattle.rules.specs.declared.decision.Decision.{Decision}
use Rattle.rules.specs.declared.literal.Literal.{Literal}
use Rattle.rules.specs.declared.refusal.Refusal.{Refusal}
use Rattle.rules.specs.declared.refusal.Refusal.TheVariants.{ShortPlan}
use Rattle.rules.specs.declared.row.Kind.{Kind}
use Rattle.rules.specs.declared.row.Kind.TheVariants.{Forbid, Activate, Price as Priced}
use Rattle.rules.specs.declared.row.Row.{Row}
use Rattle.rules.specs.declared.rule.Rule.{Rule}
use Rattle.rules.specs.declared.verdict.Breach.{Breach}
use Rattle.rules.specs.declared.verdict.Breach.TheVariants.{NotActive, NotChosen, OutOfRange, Forbidden}
use Rattle.account.specs.Accounts.{fresh}
use Rattle.account.specs.Calls.{Call, Answer, add, withdraw, rank, run, best, exclusion, unexcluded, ran, reported, excluded, answer, history}
use Rattle.account.specs.Steps.{rests_on}
use Rattle.account.specs.declared.state.State.TheVariants.{Open, Settled}

abbrev pub pair : ℕ → ℕ → Literal
pair d v = record { decision = d; value = v }

-- a rule of one pair, which has only what its kind has
abbrev pub ruled : (k : Kind) (l : Literal) (target : ℕ) (price : Price) → is_exact (composed k (l ∷ []) target price) ≡ true → Rule
ruled k l target price h = record { row = composed k (l ∷ []) target price; some = lit≤ tt; few = lit≤ tt; full = refl; ascending = ap (λ (t : Bool). t && true) (leb-zero l.decision); exact = h }

-- a rule of two pairs and no target, likewise
abbrev pub ruled_both : (n : Kind) (l k : Literal) (price : Price) → ascends (l ∷ k ∷ []) ≡ true → is_exact (composed n (l ∷ k ∷ []) 0 price) ≡ true → Rule
ruled_both n l k price order h = record { row = composed n (l ∷ k ∷ []) 0 price; some = lit≤ tt; few = lit≤ tt; full = refl; ascending = order; exact = h }

-- forbid one pair, or two
abbrev pub forbid : Literal → Call
forbid l = add (ruled Forbid l 0 free refl)

abbrev pub forbid_both : (l k : Literal) → ascends (l ∷ k ∷ []) ≡ true → Call
forbid_both l k h = add (ruled_both Forbid l k free h refl)

-- a pair activates a target
abbrev pub activate : Literal → (target : ℕ) → nat_le target 255 ≡ true → Call
activate l target h = add (ruled Activate l target free (ap (λ (t : Bool). t && true && true && true && true) h))

-- a pair has a price, by tier and cents
abbrev pub charge : Literal → (t c : ℕ) → in_range (record { tier = t; cents = c }) ≡ true → Call
charge l t c h = add (ruled Priced l 0 (record { tier = t; cents = c }) (ap (λ (t : Bool). t && true && true && true) h))

-- two pairs together have a price, in cents
abbrev pub charge_both : (l k : Literal) → ascends (l ∷ k ∷ []) ≡ true → (c : ℕ) → in_range (record { tier = 0; cents = c }) ≡ true → Call
charge_both l k order c h = add (ruled_both Priced l k (record { tier = 0; cents = c }) order (ap (λ (t : Bool). t && true && true && true) h))

abbrev pub on : ℕ → Decision
on n = record { size = n; on = true }

abbrev pub off : ℕ → Decision
off n = record { size = n; on = false }

-- what a planner answers to a run, to best and to exclusion, after a list of calls from an opening
abbrev pub runs : {C : Type 0} → Meaning C → List Decision → List Call → ℕ → Answer C
runs m ds cs budget = answer m (history m (fresh ds) cs) (run budget)

abbrev pub tells : {C : Type 0} → Meaning C → List Decision → List Call → List ℕ → Answer C
tells m ds cs buffer = answer m (history m (fresh ds) cs) (best buffer)

abbrev pub excludes : {C : Type 0} → Meaning C → List Decision → List Call → ℕ → ℕ → Answer C
excludes m ds cs d v = answer m (history m (fresh ds) cs) (exclusion d v)

-- a cost held, in cents or as a tier
abbrev pub sum : ℕ → Option Cents
sum n = Some (record { sum = n })

abbrev pub level : ℕ → Option Tier
level n = Some (record { level = n })

-- the worked book: decision 0 is on and has 3 values, decisions 1 and 2 are off and have 2 and 3
abbrev pub decisions : List Decision
decisions = on 3 ∷ off 2 ∷ off 3 ∷ []

-- 1=1 goes not with 2=3; 0=1 activates 1 and 2, 0=2 activates 2; every value has its price, and 0=3 alone is of tier 1
abbrev pub rules : List Call
rules =
    forbid_both (pair 1 1) (pair 2 3) refl ∷ activate (pair 0 1) 1 refl ∷ activate (pair 0 1) 2 refl ∷ activate (pair 0 2) 2 refl ∷ charge (pair 0 1) 0 40 refl ∷ charge (pair 0 2) 0 70 refl
    ∷ charge (pair 0 3) 1 60 refl ∷ charge (pair 1 1) 0 30 refl ∷ charge (pair 1 2) 0 45 refl ∷ charge (pair 2 1) 0 25 refl ∷ charge (pair 2 2) 0 15 refl ∷ charge (pair 2 3) 0 5 refl ∷ []

-- the worked book, settled in cents
abbrev pub settled : List Call
settled = rules ++ run 15 ∷ []

abbrev pub book : Book
book = (history cents (fresh decisions) rules).book

-- plans of the worked book, judged
pub record PlansShown : Type 0 where
  -- 1=1 with 2=3 is forbidden
  pub forbidden : is_lawful book (plan_of 3 (1 ∷ 1 ∷ 3 ∷ [])) ≡ false
  -- 0=3 does not activate decision 1
  pub idle_chosen : is_lawful book (plan_of 3 (3 ∷ 1 ∷ 0 ∷ [])) ≡ false
  -- 0=1 activates decision 2
  pub active_idle : is_lawful book (plan_of 3 (1 ∷ 1 ∷ 0 ∷ [])) ≡ false
  pub lawful : is_lawful book (plan_of 3 (2 ∷ 0 ∷ 3 ∷ [])) ≡ true
  pub priced : cost cents book.prices (plan_of 3 (2 ∷ 0 ∷ 3 ∷ [])) ≡ record { sum = 75 }

-- the row of the rule that a call adds, if it adds one
abbrev pub row_added : Call → List Row
row_added (add r) = r.row ∷ []
row_added (withdraw k place) = []
row_added (rank d n) = []
row_added (run budget) = []
row_added (best buffer) = []
row_added (exclusion d v) = []
row_added (unexcluded d) = []

-- what judge answers of a plan by the worked book's rules and some more: the one answer that can be worked out
abbrev pub judges : List Call → List ℕ → Result (Result Cents Breach) Refusal
judges more bytes = answer_of cents decisions (flat_map row_added (rules ++ more)) bytes

-- what judge tells first: the first decision at fault, then the first met forbid rule, then the cost
pub record VerdictsShown : Type 0 where
  pub costs : judges [] (2 ∷ 0 ∷ 3 ∷ []) ≡ Ok (Ok (record { sum = 75 }))
  pub not_active : judges [] (3 ∷ 2 ∷ 3 ∷ []) ≡ Ok (Err (NotActive 1))
  pub not_chosen : judges [] (1 ∷ 0 ∷ 4 ∷ []) ≡ Ok (Err (NotChosen 1))
  pub out_of_range : judges [] (1 ∷ 3 ∷ 0 ∷ []) ≡ Ok (Err (OutOfRange 1))
  -- that 1=1 goes not with 2=3 comes behind any decision at fault
  pub decision_first : judges [] (2 ∷ 1 ∷ 3 ∷ []) ≡ Ok (Err (NotActive 1))
  -- a place counts forbid rules alone, and the first met is told
  pub forbidden : judges [] (1 ∷ 1 ∷ 3 ∷ []) ≡ Ok (Err (Forbidden 0))
  pub second_met : judges (forbid (pair 0 2) ∷ []) (2 ∷ 0 ∷ 3 ∷ []) ≡ Ok (Err (Forbidden 1))
  pub both_met : judges (forbid (pair 0 1) ∷ []) (1 ∷ 1 ∷ 3 ∷ []) ≡ Ok (Err (Forbidden 0))
  -- further bytes are no part of a plan; a byte less is refused
  pub further_byte : judges [] (2 ∷ 0 ∷ 3 ∷ 9 ∷ []) ≡ Ok (Ok (record { sum = 75 }))
  pub byte_less : judges [] (2 ∷ 0 ∷ []) ≡ Err ShortPlan

-- searches of the worked book
pub record SearchesShown : Type 0 where
  -- in cents the search settles with its 15th step, at 60; a buffer's further bytes stay
  pub fifteen_steps : runs cents decisions rules 15 ≡ ran 15 Settled
  pub no_more_steps : runs cents decisions rules 17 ≡ ran 15 Settled
  pub fifteen_best : tells cents decisions settled (9 ∷ 9 ∷ 9 ∷ 9 ∷ []) ≡ reported Settled (sum 60) (3 ∷ 0 ∷ 0 ∷ 9 ∷ [])
  pub fourteen_steps : runs cents decisions rules 14 ≡ ran 14 Open
  pub fourteen_best : tells cents decisions (rules ++ run 14 ∷ []) (9 ∷ 9 ∷ 9 ∷ []) ≡ reported Open (sum 60) (3 ∷ 0 ∷ 0 ∷ [])
  -- by tier it settles with its 4th step
  pub tier_steps : runs tier decisions rules 6 ≡ ran 4 Settled
  pub tier_best : tells tier decisions (rules ++ run 6 ∷ []) (9 ∷ 9 ∷ 9 ∷ []) ≡ reported Settled (level 0) (1 ∷ 1 ∷ 1 ∷ [])

-- changes of the worked book's rules, once it is settled in cents
pub record ChangesShown : Type 0 where
  -- forbidding what the best does not use leaves one step to make
  pub unused_steps : runs cents decisions (settled ++ forbid (pair 0 1) ∷ []) 3 ≡ ran 1 Settled
  pub unused_best : tells cents decisions (settled ++ forbid (pair 0 1) ∷ run 3 ∷ []) (9 ∷ 9 ∷ 9 ∷ []) ≡ reported Settled (sum 60) (3 ∷ 0 ∷ 0 ∷ [])
  -- forbidding what the best uses leads to the next best
  pub used_steps : runs cents decisions (settled ++ forbid (pair 0 3) ∷ []) 16 ≡ ran 13 Settled
  pub used_best : tells cents decisions (settled ++ forbid (pair 0 3) ∷ run 16 ∷ []) (9 ∷ 9 ∷ 9 ∷ []) ≡ reported Settled (sum 75) (2 ∷ 0 ∷ 3 ∷ [])
  -- the price of 0=2, at place 1, withdrawn
  pub cheaper_steps : runs cents decisions (settled ++ withdraw Priced 1 ∷ []) 12 ≡ ran 11 Settled
  pub cheaper_best : tells cents decisions (settled ++ withdraw Priced 1 ∷ run 12 ∷ []) (9 ∷ 9 ∷ 9 ∷ []) ≡ reported Settled (sum 5) (2 ∷ 0 ∷ 3 ∷ [])

-- the smallest books
pub record SmallestShown : Type 0 where
  -- no decisions: the empty plan, which costs nothing
  pub nothing_steps : runs cents [] [] 5 ≡ ran 1 Settled
  pub nothing_best : tells cents [] (run 5 ∷ []) (9 ∷ []) ≡ reported Settled (sum 0) (9 ∷ [])
  -- one decision whose one value is forbidden: no plan at all
  pub hopeless_steps : runs cents (on 1 ∷ []) (forbid (pair 0 1) ∷ []) 5 ≡ ran 1 Settled
  pub hopeless_best : tells cents (on 1 ∷ []) (forbid (pair 0 1) ∷ run 5 ∷ []) (9 ∷ []) ≡ reported Settled None (9 ∷ [])

-- two decisions that are off and activate only each other
abbrev pub circle : List Call
circle = activate (pair 0 1) 1 refl ∷ activate (pair 1 1) 0 refl ∷ []

-- 0=1 activates decision 1, whose one value is forbidden
abbrev pub trap : List Call
trap = activate (pair 0 1) 1 refl ∷ forbid (pair 1 1) ∷ []

-- 0=1 goes not with 1=1, the one value of decision 1
abbrev pub clash : List Call
clash = forbid_both (pair 0 1) (pair 1 1) refl ∷ []

-- 0=1 for 5 cents, 0=2 for 10
abbrev pub choice : List Call
choice = charge (pair 0 1) 0 5 refl ∷ charge (pair 0 2) 0 10 refl ∷ []

-- 0=1 activates decision 1, and goes not with 2=1, the one value of decision 2
abbrev pub orphan : List Call
orphan = activate (pair 0 1) 1 refl ∷ forbid_both (pair 0 1) (pair 2 1) refl ∷ []

-- where a planner goes quietly wrong
pub record PitfallsShown : Type 0 where
  -- what only a circle activates stays idle
  pub circle_unlawful : is_lawful (history cents (fresh (off 1 ∷ off 1 ∷ [])) circle).book (plan_of 2 (1 ∷ 1 ∷ [])) ≡ false
  pub circle_steps : runs cents (off 1 ∷ off 1 ∷ []) circle 5 ≡ ran 1 Settled
  pub circle_best : tells cents (off 1 ∷ off 1 ∷ []) (circle ++ run 5 ∷ []) (9 ∷ 9 ∷ []) ≡ reported Settled (sum 0) (0 ∷ 0 ∷ [])
  -- a dead end blames what made the decision active: not to blame it would end here with no plan
  pub trap_steps : runs cents (on 2 ∷ off 1 ∷ []) trap 9 ≡ ran 4 Settled
  pub trap_best : tells cents (on 2 ∷ off 1 ∷ []) (trap ++ run 9 ∷ []) (9 ∷ 9 ∷ []) ≡ reported Settled (sum 0) (2 ∷ 0 ∷ [])
  -- the exclusions of a stuck decision go with the decision that they name: to keep them would leave 0=2 without 1=1
  pub clash_exclusion : excludes cents (on 2 ∷ on 1 ∷ []) (clash ++ run 2 ∷ []) 1 1 ≡ excluded None
  pub clash_steps : runs cents (on 2 ∷ on 1 ∷ []) clash 9 ≡ ran 5 Settled
  pub clash_best : tells cents (on 2 ∷ on 1 ∷ []) (clash ++ run 9 ∷ []) (9 ∷ 9 ∷ []) ≡ reported Settled (sum 0) (2 ∷ 1 ∷ [])
  -- an entry leaves with what made its decision active: to keep it would choose decision 1 beside 0=2
  pub orphan_steps : runs cents (on 2 ∷ off 1 ∷ on 1 ∷ []) orphan 9 ≡ ran 6 Settled
  pub orphan_best : tells cents (on 2 ∷ off 1 ∷ on 1 ∷ []) (orphan ++ run 9 ∷ []) (9 ∷ 9 ∷ 9 ∷ []) ≡ reported Settled (sum 0) (2 ∷ 0 ∷ 1 ∷ [])
  -- an exclusion that rests on the best goes with a price that is withdrawn: to keep it would leave the best at 5
  pub choice_best : tells cents (on 2 ∷ []) (choice ++ run 9 ∷ []) (9 ∷ []) ≡ reported Settled (sum 5) (1 ∷ [])
  pub choice_rests : rests_on ((history cents (fresh (on 2 ∷ [])) (choice ++ run 9 ∷ [])).exclusions 0 2) ≡ true
  pub choice_exclusion : excludes cents (on 2 ∷ []) (choice ++ run 9 ∷ withdraw Priced 1 ∷ []) 0 2 ≡ excluded None
  pub choice_after : tells cents (on 2 ∷ []) (choice ++ run 9 ∷ withdraw Priced 1 ∷ run 9 ∷ []) (9 ∷ []) ≡ reported Settled (sum 0) (2 ∷ [])

-- all worked cases
pub record AllShown : Type 0 where
  pub plans : PlansShown
  pub verdicts : VerdictsShown
  pub searches : SearchesShown
  pub changes : ChangesShown
  pub smallest : SmallestShown
  pub pitfalls : PitfallsShown
