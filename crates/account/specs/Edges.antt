-- Calls at the edges of what they accept, each with its refusal or none: every number, one less and one more, and the order of grounds. All follow by computing from the definitions.
use Rattle.std.specs.Prelude.{◌≡◌, ℕ, List, [], ◌∷◌, replicate, Some, None, Option, refl}
use Rattle.measure.specs.Supplied.{cents}
use Rattle.measure.specs.declared.cents.Cents.{Cents}
use Rattle.measure.specs.declared.price.Price.{Price}
use Rattle.rules.specs.Compose.{compose_refusal, composed, free, new_rule}
use Rattle.rules.specs.Conditions.{condition}
use Rattle.rules.specs.Judging.{open_refusal, judge_refusal}
use Rattle.rules.specs.Refusals.{layer_of, number_of}
use Rattle.rules.specs.declared.literal.Literal.{Literal}
use Rattle.rules.specs.declared.refusal.Layer.{Layer}
use Rattle.rules.specs.declared.refusal.Layer.TheVariants.{Text, Rule, Planner}
use Rattle.rules.specs.declared.refusal.Refusal.{Refusal}
use Rattle.rules.specs.declared.refusal.Refusal.TheVariants.{TooManyDecisions, SizeOutOfRange, PairCount, UnknownDecision, UnknownValue, NotAscending, CentsTooLarge, TableFull, NoSuchRule, BudgetTooLarge, ShortPlan, UnknownLine, MalformedField, FieldCount, DecisionAfterRule, BookTooLarge, ShortText}
use Rattle.rules.specs.declared.row.Kind.TheVariants.{Forbid, Activate, Price as Priced}
use Rattle.account.specs.Accounts.{Account, fresh}
use Rattle.account.specs.Calls.{Call, withdraw, rank, run, best, exclusion, unexcluded, history, refusal}
use Rattle.account.specs.Worked.{activate, decisions, forbid, forbid_both, off, on, pair, rules}

-- decisions that open takes, or why it refuses them
pub record OpeningsShown : Type 0 where
  pub no_decision : open_refusal [] ≡ None
  pub most_decisions : open_refusal (replicate 64 (on 16)) ≡ None
  -- their number comes before their sizes
  pub decision_more : open_refusal (replicate 65 (off 17)) ≡ Some TooManyDecisions
  pub smallest : open_refusal (off 1 ∷ []) ≡ None
  pub no_value : open_refusal (on 1 ∷ off 0 ∷ []) ≡ Some SizeOutOfRange
  pub value_more : open_refusal (on 17 ∷ on 1 ∷ []) ≡ Some SizeOutOfRange

-- a price of one cent too many
abbrev pub dear : Price
dear = record { tier = 255; cents = 1000000001 }

-- four pairs
abbrev pub four : List Literal
four = pair 0 1 ∷ pair 1 1 ∷ pair 2 1 ∷ pair 63 1 ∷ []

-- parts that compose takes, or why it refuses them
pub record ComposingsShown : Type 0 where
  pub no_pair : compose_refusal Forbid [] free ≡ Some PairCount
  pub one_pair : compose_refusal Forbid (pair 255 255 ∷ []) free ≡ None
  pub most_pairs : compose_refusal Activate four free ≡ None
  -- the number of pairs comes before their order, and that before the cents
  pub pair_more : compose_refusal Priced (pair 9 1 ∷ four) dear ≡ Some PairCount
  pub descending : compose_refusal Priced (pair 1 1 ∷ pair 0 1 ∷ []) dear ≡ Some NotAscending
  pub decision_twice : compose_refusal Forbid (pair 1 1 ∷ pair 1 2 ∷ []) free ≡ Some NotAscending
  pub most_cents : compose_refusal Priced four (record { tier = 255; cents = 1000000000 }) ≡ None
  pub cent_more : compose_refusal Priced four dear ≡ Some CentsTooLarge
  -- a rule of another kind has no price
  pub no_price : compose_refusal Activate four dear ≡ None

-- why the worked book's account refuses a call
abbrev pub refuses : Call → Option Refusal
refuses c = refusal (history cents (fresh decisions) rules) c

-- an account over two decisions of one value, with so many forbid rules
abbrev pub forbidding : ℕ → Account Cents
forbidding n =
    let a : Account Cents = fresh (on 1 ∷ on 1 ∷ []) in
    record a { book = record { decisions = a.book.decisions; forbids = replicate n new_rule; activates = []; prices = [] } }

-- changes of rules, and why they are refused
pub record ChangingsShown : Type 0 where
  -- a known decision has a number below theirs, a known value is from 1 to the size
  pub known : refuses (forbid_both (pair 0 3) (pair 2 3) refl) ≡ None
  pub decision_more : refuses (forbid_both (pair 0 4) (pair 3 1) refl) ≡ Some UnknownDecision
  pub target_known : refuses (activate (pair 0 1) 2 refl) ≡ None
  -- decisions of pairs and target come before values
  pub target_more : refuses (activate (pair 0 4) 3 refl) ≡ Some UnknownDecision
  pub value_more : refuses (forbid (pair 1 3)) ≡ Some UnknownValue
  pub value_zero : refuses (forbid (pair 1 0)) ≡ Some UnknownValue
  -- 256 rules of a kind are held, and as many of another; values come before the room for rules
  pub last_place : refusal (forbidding 255) (forbid (pair 1 1)) ≡ None
  pub rule_more : refusal (forbidding 256) (forbid (pair 1 1)) ≡ Some TableFull
  pub other_kind : refusal (forbidding 256) (activate (pair 1 1) 0 refl) ≡ None
  pub value_first : refusal (forbidding 256) (forbid (pair 1 2)) ≡ Some UnknownValue
  pub last_rule : refuses (withdraw Priced 7) ≡ None
  pub place_more : refuses (withdraw Priced 8) ≡ Some NoSuchRule
  pub place_of_kind : refuses (withdraw Forbid 1) ≡ Some NoSuchRule

-- other calls, and why they are refused
pub record AskingsShown : Type 0 where
  pub last_rank : refuses (rank 2 255) ≡ None
  pub rank_more : refuses (rank 3 0) ≡ Some UnknownDecision
  pub no_step : refuses (run 0) ≡ None
  pub most_steps : refuses (run 1000000) ≡ None
  pub step_more : refuses (run 1000001) ≡ Some BudgetTooLarge
  -- a buffer has a byte for each decision, whether or not a best is held
  pub full_plan : refuses (best (9 ∷ 9 ∷ 9 ∷ [])) ≡ None
  pub byte_less : refuses (best (9 ∷ 9 ∷ [])) ≡ Some ShortPlan
  pub last_value : refuses (exclusion 1 2) ≡ None
  pub value_more : refuses (exclusion 1 3) ≡ Some UnknownValue
  pub value_zero : refuses (exclusion 1 0) ≡ Some UnknownValue
  pub decision_more : refuses (exclusion 3 0) ≡ Some UnknownDecision
  pub last_decision : refuses (unexcluded 2) ≡ None
  pub decision_past : refuses (unexcluded 3) ≡ Some UnknownDecision
  -- judging refuses decisions, then rows, then a short plan
  pub judged_open : judge_refusal (on 17 ∷ []) (new_rule ∷ []) [] ≡ Some SizeOutOfRange
  pub judged_row : judge_refusal [] (new_rule ∷ []) [] ≡ Some UnknownDecision
  pub judged_short : judge_refusal (on 1 ∷ []) (new_rule ∷ []) [] ≡ Some ShortPlan
  pub judged_long : judge_refusal (on 1 ∷ []) (new_rule ∷ []) (1 ∷ 9 ∷ []) ≡ None
  -- only an activate rule's target is looked at; of several rows the first that is refused tells why
  pub judged_target : judge_refusal (on 1 ∷ []) (record new_rule { target = 9 } ∷ []) (0 ∷ []) ≡ None
  pub judged_first : judge_refusal (on 1 ∷ []) (composed Forbid (pair 0 2 ∷ []) 0 free ∷ composed Forbid (pair 1 1 ∷ []) 0 free ∷ []) [] ≡ Some UnknownValue

-- the rule that a new place holds
pub record NewRuleShown : Type 0 where
  pub kind : new_rule.kind ≡ Forbid
  pub condition_is : condition new_rule ≡ pair 0 1 ∷ []

-- each refusal's number and layer
abbrev pub numbered : Refusal → ℕ → Layer → Type 0
numbered r n l = (number_of r ≡ n) × (layer_of n ≡ l)

pub record NumbersShown : Type 0 where
  pub too_many_decisions : numbered TooManyDecisions 1 Planner
  pub size_out_of_range : numbered SizeOutOfRange 2 Planner
  pub pair_count : numbered PairCount 3 Rule
  pub unknown_decision : numbered UnknownDecision 4 Planner
  pub unknown_value : numbered UnknownValue 5 Planner
  pub not_ascending : numbered NotAscending 6 Rule
  pub cents_too_large : numbered CentsTooLarge 7 Rule
  pub table_full : numbered TableFull 8 Planner
  pub no_such_rule : numbered NoSuchRule 9 Planner
  pub budget_too_large : numbered BudgetTooLarge 10 Planner
  pub short_plan : numbered ShortPlan 11 Planner
  pub unknown_line : numbered UnknownLine 12 Text
  pub malformed_field : numbered MalformedField 13 Text
  pub field_count : numbered FieldCount 14 Text
  pub decision_after_rule : numbered DecisionAfterRule 15 Text
  pub book_too_large : numbered BookTooLarge 16 Text
  pub short_text : numbered ShortText 17 Text

-- all of them
pub record EdgesShown : Type 0 where
  pub openings : OpeningsShown
  pub composings : ComposingsShown
  pub changings : ChangingsShown
  pub askings : AskingsShown
  pub new_rule : NewRuleShown
  pub numbers : NumbersShown
