-- Small texts, each with what it is loaded as or its fault, and with the text of its plan.
use Rattle.std.specs.Prelude.{◌≡◌, ℕ, ◌<◌, List, [], ◌∷◌, length, Ok, Err, codes, Result, refl}
use Rattle.measure.specs.Supplied.{cents, pair_of, tier}
use Rattle.measure.specs.declared.cents.Cents.{Cents}
use Rattle.rules.specs.Compose.{free}
use Rattle.rules.specs.Plans.{Book}
use Rattle.rules.specs.declared.refusal.Refusal.{Refusal}
use Rattle.rules.specs.declared.refusal.Refusal.TheVariants.{SizeOutOfRange, PairCount, UnknownDecision, UnknownValue, NotAscending, CentsTooLarge, UnknownLine, MalformedField, FieldCount, DecisionAfterRule, BookTooLarge}
use Rattle.rules.specs.declared.row.Kind.TheVariants.{Forbid}
use Rattle.account.specs.Accounts.{Account, fresh}
use Rattle.account.specs.Worked.{book, forbid, on, pair, ruled}
use Rattle.rendering.specs.Texts.{book_text, ended}
use Rattle.statements.specs.Statements.{fault}
use Rattle.statements.specs.Views.{on_ok}
use Rattle.statements.specs.declared.fault.Fault.{Fault}
use Rattle.book.specs.Laws.{Accepted, BytePaired, ByteSized, rows_of}
use Rattle.book.specs.Loads.{left_by, loaded}
use Rattle.book.specs.Outcomes.{plan_text, planned_by}

-- the book that a text is loaded as, or its fault
abbrev pub read : List ℕ → Result Book Fault
read text = on_ok (λ (a : Account Cents). a.book) (loaded cents text)

-- a fault at a line and column
abbrev pub faulty : Refusal → ℕ → ℕ → Result Book Fault
faulty r line column = Err (fault r line column)

-- the worked book as text
abbrev pub worked : List ℕ
worked =
    ended
    (codes "D 3 on" ∷ codes "D 2 off" ∷ codes "D 3 off" ∷ codes "F 1=1 2=3" ∷ codes "A 1 0=1" ∷ codes "A 2 0=1" ∷ codes "A 2 0=2" ∷ codes "P 0 40 0=1" ∷ codes "P 0 70 0=2"
    ∷ codes "P 1 60 0=3" ∷ codes "P 0 30 1=1" ∷ codes "P 0 45 1=2" ∷ codes "P 0 25 2=1" ∷ codes "P 0 15 2=2" ∷ codes "P 0 5 2=3" ∷ [])

-- texts that are loaded, and texts that are refused
pub record LoadsShown : Type 0 where
  -- the worked book is that of the worked cases
  pub worked_book : read worked ≡ Ok book
  pub nothing : read [] ≡ Ok (record { decisions = []; forbids = []; activates = []; prices = [] })
  -- the first faulty line is the one reported, whatever its fault is
  pub value : read (ended (codes "D 2 on" ∷ codes "F 0=3" ∷ codes "X" ∷ [])) ≡ faulty UnknownValue 2 1
  pub size : read (ended (codes "D 17 on" ∷ codes "D 1 x" ∷ [])) ≡ faulty SizeOutOfRange 1 1
  pub form : read (ended (codes "D 2 on" ∷ codes "D 1 x" ∷ codes "D 17 on" ∷ [])) ≡ faulty MalformedField 2 5
  pub kind : read (ended (codes "D 2 on" ∷ [] ∷ [])) ≡ faulty UnknownLine 2 1
  pub late : read (ended (codes "D 2 on" ∷ codes "F 0=1" ∷ codes "D 17 x" ∷ [])) ≡ faulty DecisionAfterRule 3 1
  pub endless : read (codes "D 2 on") ≡ faulty FieldCount 1 7
  -- of one line, what its fields are comes first, then the number of pairs, then as compose refuses, then as add
  pub pairs : read (ended (codes "D 1 on" ∷ codes "A 9" ∷ [])) ≡ faulty PairCount 2 1
  pub order : read (ended (codes "D 1 on" ∷ codes "P 0 1000000001 9=1 9=1" ∷ [])) ≡ faulty NotAscending 2 1
  pub cents : read (ended (codes "D 1 on" ∷ codes "P 0 1000000001 9=1" ∷ [])) ≡ faulty CentsTooLarge 2 1
  pub decision : read (ended (codes "D 1 on" ∷ codes "A 1 0=2" ∷ [])) ≡ faulty UnknownDecision 2 1
  -- a text of more than 65,536 bytes, whatever is in it
  pub large : (text : List ℕ) → 65536 < length text → read text ≡ faulty BookTooLarge 1 1

-- a book of no lawful plan
abbrev pub hopeless : List ℕ
hopeless = ended (codes "D 1 on" ∷ codes "F 0=1" ∷ [])

-- the text of a book's plan, in tier and cents
abbrev pub planned : List ℕ → List ℕ
planned text = plan_text (pair_of tier cents) text

-- texts of plans, and of a fault
pub record PlansShown : Type 0 where
  pub worked_book : planned worked ≡ ended (codes "settled 0 75" ∷ codes "0 2" ∷ codes "2 3" ∷ [])
  pub nothing : planned [] ≡ ended (codes "settled 0 0" ∷ [])
  pub hopeless_book : planned hopeless ≡ ended (codes "none" ∷ [])
  pub refused : planned (ended (codes "D 1 on" ∷ codes "F 0=1 1" ∷ [])) ≡ ended (codes "refused 13 text 2 7" ∷ [])

-- a text whose second line is faulty
abbrev pub broken : List ℕ
broken = ended (codes "D 2 on" ∷ codes "X" ∷ [])

-- what a refused text leaves, and what is written of a book
pub record LeavingsShown : Type 0 where
  -- nothing is left of the lines before the fault
  pub loaded_broken : left_by (loaded cents broken) ≡ fresh []
  pub planned_broken : planned_by (pair_of tier cents) (loaded (pair_of tier cents) broken) ≡ fresh []
  -- forbid rules are written first, then activate rules, then price rules
  pub written : book_text book.decisions (rows_of book) ≡ worked

-- what the words of the laws take in, and what not
pub record WordsShown : Type 0 where
  pub largest_size : ByteSized (on 255)
  pub largest_pair : BytePaired (ruled Forbid (pair 255 255) 0 free refl)
  -- calls of which the second is refused are not all accepted
  pub refused : Accepted cents (fresh (on 1 ∷ [])) (forbid (pair 0 1) ∷ forbid (pair 0 2) ∷ []) → ⊥

-- all of them
pub record TextsPlanned : Type 0 where
  pub loads : LoadsShown
  pub plans : PlansShown
  pub leavings : LeavingsShown
  pub words : WordsShown
