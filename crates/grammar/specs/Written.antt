-- Texts, written out. All follow by computing from the definitions.
use Rattle.std.specs.Prelude.{◌≡◌, ℕ, true, false, List, [], ◌∷◌, Some, None, Ok, Err, codes, Option}
use Rattle.measure.specs.declared.cents.Cents.{Cents}
use Rattle.measure.specs.declared.pair.Pair.{Pair}
use Rattle.measure.specs.declared.tier.Tier.{Tier}
use Rattle.rules.specs.Compose.{composed, free}
use Rattle.rules.specs.declared.decision.Decision.{Decision}
use Rattle.rules.specs.declared.refusal.Refusal.TheVariants.{PairCount, MalformedField, TableFull, ShortText}
use Rattle.rules.specs.declared.row.Kind.TheVariants.{Forbid, Activate, Price as Priced}
use Rattle.rules.specs.declared.row.Row.{Row}
use Rattle.account.specs.declared.state.State.TheVariants.{Open, Settled}
use Rattle.rendering.specs.Fills.{counted, filled}
use Rattle.rendering.specs.Texts.{book_text, ended, fault_text, outcome_text}
use Rattle.grammar.specs.Shown.{pair}

abbrev pub decisions : List Decision
decisions = record { size = 2; on = true } ∷ record { size = 16; on = false } ∷ []

-- a rule of each kind
abbrev pub rules : List Row
rules =
    composed Forbid (pair 0 2 ∷ pair 1 13 ∷ []) 0 free ∷ composed Activate (pair 0 1 ∷ []) 1 free
    ∷ composed Priced (pair 1 10 ∷ []) 0 (record { tier = 3; cents = 1000000000 }) ∷ []

-- a best's cost
abbrev pub costing : ℕ → ℕ → Option (Pair Tier Cents)
costing t c = Some (record { first = record { level = t }; second = record { sum = c } })

-- a text written into a buffer that is longer, as long, or a byte shorter
pub record FillsShown : Type 0 where
  pub longer : filled (codes "ab") (9 ∷ 9 ∷ 9 ∷ []) ≡ 97 ∷ 98 ∷ 9 ∷ []
  pub longer_count : counted (codes "ab") (9 ∷ 9 ∷ 9 ∷ []) ≡ Ok 2
  pub as_long : filled (codes "ab") (9 ∷ 9 ∷ []) ≡ codes "ab"
  pub as_long_count : counted (codes "ab") (9 ∷ 9 ∷ []) ≡ Ok 2
  pub shorter : filled (codes "ab") (9 ∷ []) ≡ 9 ∷ []
  pub shorter_count : counted (codes "ab") (9 ∷ []) ≡ Err ShortText

-- the texts of a book, of faults and of outcomes
pub record TextsShown : Type 0 where
  pub book : book_text decisions rules ≡ ended (codes "D 2 on" ∷ codes "D 16 off" ∷ codes "F 0=2 1=13" ∷ codes "A 1 0=1" ∷ codes "P 3 1000000000 1=10" ∷ [])
  pub nothing : book_text [] [] ≡ []
  pub text_fault : fault_text MalformedField 4 3 ≡ ended (codes "refused 13 text 4 3" ∷ [])
  pub rule_fault : fault_text PairCount 10 1 ≡ ended (codes "refused 3 rule 10 1" ∷ [])
  pub planner_fault : fault_text TableFull 832 1 ≡ ended (codes "refused 8 planner 832 1" ∷ [])
  pub settled : outcome_text Settled (costing 0 75) (2 ∷ 0 ∷ 3 ∷ []) ≡ ended (codes "settled 0 75" ∷ codes "0 2" ∷ codes "2 3" ∷ [])
  pub held : outcome_text Open (costing 1 20) (0 ∷ 16 ∷ []) ≡ ended (codes "open 1 20" ∷ codes "1 16" ∷ [])
  pub unheld : outcome_text Open None (0 ∷ 0 ∷ []) ≡ ended (codes "open" ∷ [])
  pub none : outcome_text Settled None (0 ∷ 0 ∷ []) ≡ ended (codes "none" ∷ [])
  -- byte 10 ends each line
  pub lines : ended (codes "A" ∷ codes "B" ∷ []) ≡ 65 ∷ 10 ∷ 66 ∷ 10 ∷ []

-- all of them
pub record AllWritten : Type 0 where
  pub texts : TextsShown
  pub fills : FillsShown
