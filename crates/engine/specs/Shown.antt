-- Small books of bytes, each with what it comes to or the number of its fault.
use Rattle.std.specs.Prelude.{◌≡◌, ℕ, true, false, List, [], ◌∷◌, ◌++◌, Ok, replicate}
use Rattle.engine.specs.Answered.{answered, number}

-- the record of a rule of one pair: its kind, decision and value, its target, and the two lowest bytes of its cents
abbrev pub rule : ℕ → ℕ → ℕ → ℕ → ℕ → ℕ → List ℕ
rule kind d v target low high = kind ∷ 1 ∷ d ∷ v ∷ 0 ∷ 0 ∷ 0 ∷ 0 ∷ 0 ∷ 0 ∷ target ∷ 0 ∷ low ∷ high ∷ 0 ∷ 0 ∷ []

-- decision 0 is on and has two values, which cost 300 and 517 cents; 0=1 activates decision 1
abbrev pub book : List ℕ
book = (2 ∷ 2 ∷ 1 ∷ 1 ∷ 0 ∷ []) ++ (rule 2 0 1 0 44 1 ++ (rule 2 0 2 0 5 2 ++ rule 1 0 1 1 0 0))

-- the record of a price rule of 1,000,000,000 cents and so many more
abbrev pub dear : ℕ → List ℕ
dear low = 2 ∷ 1 ∷ 0 ∷ 1 ∷ (replicate 8 0 ++ low ∷ 202 ∷ 154 ∷ 59 ∷ [])

-- four decisions of one value, which go not all together: the record has four pairs
abbrev pub four : List ℕ
four = 4 ∷ (replicate 8 1 ++ (0 ∷ 4 ∷ 0 ∷ 1 ∷ 1 ∷ 1 ∷ 2 ∷ 1 ∷ 3 ∷ 1 ∷ replicate 6 0))

-- one decision of two values, before what follows
abbrev pub one : List ℕ → List ℕ
one bytes = 1 ∷ 2 ∷ 1 ∷ bytes

-- the number that is answered, with a budget of ten steps and a buffer of three bytes
abbrev pub answer_to : List ℕ → ℕ
answer_to bytes = number (answered bytes 10 (9 ∷ 9 ∷ 9 ∷ []))

-- books that come to something, and books at fault
pub record BooksShown : Type 0 where
  -- what a book comes to
  pub planned : answered book 10 (9 ∷ 9 ∷ 9 ∷ []) ≡ Ok (record { outcome = record { cost = 300; steps = 4; settled = true; held = true }; plan = 1 ∷ 1 ∷ 9 ∷ [] })
  pub unplanned : answered book 0 (9 ∷ 9 ∷ 9 ∷ []) ≡ Ok (record { outcome = record { cost = 0; steps = 0; settled = false; held = false }; plan = 9 ∷ 9 ∷ 9 ∷ [] })
  pub hopeless : answered four 10 (replicate 4 9) ≡ Ok (record { outcome = record { cost = 0; steps = 7; settled = true; held = false }; plan = replicate 4 9 })
  -- bytes that are no book
  pub nothing : answer_to [] ≡ 255
  pub too_few : answer_to (1 ∷ 2 ∷ []) ≡ 255
  pub too_many : answer_to (one (0 ∷ [])) ≡ 255
  pub mark : answer_to (1 ∷ 2 ∷ 2 ∷ []) ≡ 255
  pub kind : answer_to (one (rule 3 0 1 0 0 0)) ≡ 255
  pub pairs : answer_to (one (0 ∷ 5 ∷ replicate 14 0)) ≡ 255
  -- refusals
  pub size : answer_to (1 ∷ 17 ∷ 1 ∷ []) ≡ 2
  pub decisions : answer_to (65 ∷ replicate 130 1) ≡ 1
  pub no_pair : answer_to (one (replicate 16 0)) ≡ 3
  pub unordered : answer_to (one (0 ∷ 2 ∷ 0 ∷ 1 ∷ 0 ∷ 2 ∷ replicate 10 0)) ≡ 6
  pub decision : answer_to (one (rule 0 1 1 0 0 0)) ≡ 4
  pub value : answer_to (one (rule 0 0 3 0 0 0)) ≡ 5
  -- the cents have four bytes: 1,000,000,000, and one more
  pub most_cents : answer_to (one (dear 0)) ≡ 0
  pub cent_more : answer_to (one (dear 1)) ≡ 7
  pub budget : number (answered (one []) 1000001 (9 ∷ [])) ≡ 10
  pub short : number (answered (one []) 10 []) ≡ 11
  -- the first fault is the one that is answered
  pub rule_first : answer_to (one (rule 0 0 3 0 0 0 ++ rule 3 0 1 0 0 0)) ≡ 5
  pub record_first : answer_to (one (rule 3 0 1 0 0 0 ++ rule 0 0 3 0 0 0)) ≡ 255
  pub size_first : answer_to (1 ∷ 17 ∷ 1 ∷ rule 3 0 1 0 0 0) ≡ 2
  pub book_first : number (answered (one (rule 3 0 1 0 0 0)) 1000001 []) ≡ 255
  pub budget_first : number (answered (one []) 1000001 []) ≡ 10
