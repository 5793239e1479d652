-- The entries that an array holds, as the account's trail.
use Rattle.std.specs.Prelude.{ℕ, zero, suc, Bool, true, false, ◌&&◌, ◌||◌, List, [], ◌∷◌, length, ◌==◌, nat_le, nat_lt, slice_index_or}
use Rattle.account.specs.Accounts.{Entry as Choice, chosen}
use Rattle.sets.specs.Members.{members}
use Rattle.tables.specs.declared.entry.Entry.{Entry}

-- an entry as the account has it
abbrev pub entry_of : Entry → Choice
entry_of e = record { decision = e.decision; value = e.value; support = members e.support }

-- no entry: what stands behind an array's last
abbrev pub blank : Entry
blank = record { decision = 0; value = 0; support = record { bits = 0 } }

-- the first n entries, newest first
abbrev pub entries_of : List Entry → ℕ → List Choice
entries_of es zero = []
entries_of es (suc n) = entry_of (slice_index_or es n blank) ∷ entries_of es n

-- all entries, newest first
abbrev pub newest_first : List Entry → List Choice
newest_first es = entries_of es (length es)

-- whether an entry may enter a trail: its decision is below 64 and not on the trail, its value 1 to 16
abbrev pub enters : Choice → List Choice → Bool
enters e es = nat_lt e.decision 64 && (nat_le 1 e.value && (nat_le e.value 16 && chosen es e.decision == 0))

-- whether every entry may enter after the older ones
abbrev pub proper : List Choice → Bool
proper [] = true
proper (e ∷ es) = enters e es && proper es

-- whether a decision is in a list
abbrev pub in_list : ℕ → List ℕ → Bool
in_list x [] = false
in_list x (d ∷ ds) = x == d || in_list x ds
