-- Tricky lines, and what each states or why it is refused. All follow by computing from the definitions.
use Rattle.std.specs.Prelude.{◌≡◌, ℕ, true, false, List, [], ◌∷◌, Ok, Err, codes, Result}
use Rattle.rules.specs.Compose.{free}
use Rattle.rules.specs.declared.literal.Literal.{Literal}
use Rattle.rules.specs.declared.refusal.Refusal.{Refusal}
use Rattle.rules.specs.declared.refusal.Refusal.TheVariants.{PairCount, UnknownLine, MalformedField, FieldCount, DecisionAfterRule}
use Rattle.rules.specs.declared.row.Kind.TheVariants.{Forbid, Activate, Price as Priced}
use Rattle.statements.specs.Statements.{Stated, decides, fault, read_line, rules}
use Rattle.statements.specs.declared.fault.Fault.{Fault}

-- what line 4 of a text is read as
abbrev pub fourth : List ℕ → Result Stated Fault
fourth bytes = read_line false (record { bytes = bytes; number = 4; ended = true })

-- a refusal of line 4, at a column
abbrev pub faulty : Refusal → ℕ → Result Stated Fault
faulty r column = Err (fault r 4 column)

abbrev pub pair : ℕ → ℕ → Literal
pair d v = record { decision = d; value = v }

-- lines that state something
pub record LinesRead : Type 0 where
  pub decision : fourth (codes "D 3 on") ≡ Ok (decides (record { size = 3; on = true }))
  pub forbid : fourth (codes "F 1=1 2=3") ≡ Ok (rules Forbid (pair 1 1 ∷ pair 2 3 ∷ []) 0 free)
  pub activate : fourth (codes "A 2 0=1") ≡ Ok (rules Activate (pair 0 1 ∷ []) 2 free)
  pub price : fourth (codes "P 1 60 0=3") ≡ Ok (rules Priced (pair 0 3 ∷ []) 0 (record { tier = 1; cents = 60 }))

-- lines of no kind
pub record KindsShown : Type 0 where
  pub empty : fourth [] ≡ faulty UnknownLine 1
  pub spaceless : fourth (codes "F") ≡ faulty UnknownLine 1
  pub lower_case : fourth (codes "f 1=1") ≡ faulty UnknownLine 1
  -- a decision after a rule is refused whatever its fields are
  pub late : read_line true (record { bytes = codes "D x"; number = 4; ended = true }) ≡ faulty DecisionAfterRule 1
  pub late_spaceless : read_line true (record { bytes = codes "D"; number = 4; ended = true }) ≡ faulty UnknownLine 1

-- fields that are empty, missing or too many, and a missing end: the leftmost is reported, what is missing one past the line
pub record CountsShown : Type 0 where
  pub nothing : fourth (codes "F ") ≡ faulty FieldCount 3
  pub trailing_space : fourth (codes "A 1 ") ≡ faulty FieldCount 5
  pub two_spaces : fourth (codes "D  3 on") ≡ faulty FieldCount 3
  pub missing : fourth (codes "P 0") ≡ faulty FieldCount 4
  pub missing_mark : fourth (codes "D 16") ≡ faulty FieldCount 5
  pub too_many : fourth (codes "D 3 on x") ≡ faulty FieldCount 8
  pub endless : read_line false (record { bytes = codes "D 3 on"; number = 4; ended = false }) ≡ faulty FieldCount 7
  -- before a field that is not of its form
  pub before_forms : fourth (codes "F x ") ≡ faulty FieldCount 5

-- fields that are not of their form: the leftmost is reported
pub record FormsShown : Type 0 where
  pub leading_zero : fourth (codes "D 03 on") ≡ faulty MalformedField 3
  pub zero : fourth (codes "A 0 0=1") ≡ Ok (rules Activate (pair 0 1 ∷ []) 0 free)
  pub large : fourth (codes "D 256 on") ≡ faulty MalformedField 3
  pub mark : fourth (codes "D 3 On") ≡ faulty MalformedField 5
  pub two_signs : fourth (codes "F 1=1=2") ≡ faulty MalformedField 3
  pub leftmost : fourth (codes "F 1=1 x y") ≡ faulty MalformedField 7
  pub large_cents : fourth (codes "P 0 4294967296 0=1") ≡ faulty MalformedField 5
  pub behind_target : fourth (codes "A 12 x") ≡ faulty MalformedField 6
  pub behind_cents : fourth (codes "P 10 600 0=1 x") ≡ faulty MalformedField 14

-- pairs that are missing or more than four
pub record PairsShown : Type 0 where
  pub none : fourth (codes "A 1") ≡ faulty PairCount 1
  pub five : fourth (codes "F 0=1 1=1 2=1 3=1 4=1") ≡ faulty PairCount 1
  -- after a field that is not of its form
  pub after_forms : fourth (codes "F 0=1 1=1 2=1 3=1 4=1 5") ≡ faulty MalformedField 23

-- all of them
pub record TrickyLines : Type 0 where
  pub read : LinesRead
  pub kinds : KindsShown
  pub counts : CountsShown
  pub forms : FormsShown
  pub pairs : PairsShown
