-- What a retreat finds and leaves of a trail's entries.
use Rattle.std.specs.Prelude.{◌≡◌, ℕ, zero, suc, ◌+◌, ◌<◌, true, false, cond, List, [], ◌∷◌, length, get_or, Some, None, Option, slice_index_or}
use Rattle.std.specs.List.{AllByRecursion}
use Rattle.rules.specs.Conditions.{from_bytes}
use Rattle.rules.specs.Plans.{Set}
use Rattle.account.specs.Accounts.{Entry as Choice, has_any}
use Rattle.account.specs.Steps.{Retreat as Parting, retreat}
use Rattle.sets.specs.Members.{members}
use Rattle.tables.specs.Entries.{entry_of, blank, entries_of, in_list}
use Rattle.tables.specs.declared.entry.Entry.{Entry}
use Rattle.tables.specs.declared.retreat.Retreat.{Retreat}

-- the place of the latest entry whose decision is in a set
abbrev pub Latest : Set → List Entry → Option ℕ → Type 0
Latest s es None = (k : ℕ) → k < length es → s (get_or es k blank).decision ≡ false
Latest s es (Some place) =
    (place < length es) × (s (get_or es place blank).decision ≡ true) × ((k : ℕ) → place < k → k < length es → s (get_or es k blank).decision ≡ false)

-- an entry newer than the culprit leaves if its support has a decision that left
abbrev pub followed : Choice → Parting → Parting
followed e r =
    cond (has_any e.support r.left)
    (record { culprit = r.culprit; left = e.decision ∷ r.left; stays = r.stays })
    (record { culprit = r.culprit; left = r.left; stays = e ∷ r.stays })

-- the retreat whose culprit stands at a place, over the n entries after it
unfoldable pub swept : List Entry → ℕ → ℕ → Parting
swept es place zero = record { culprit = entry_of (slice_index_or es place blank); left = (get_or es place blank).decision ∷ []; stays = entries_of es place }
swept es place (suc n) = followed (entry_of (slice_index_or es (suc (place + n)) blank)) (swept es place n)

-- a trail's entries es and values vs have become ns and ws by a retreat r: the first n entries stay, the decisions of s left, and those have the value 0
pub record Sweeping (es : List Entry) (vs : List ℕ) (r : Parting) (ns : List Entry) (ws : List ℕ) (n : ℕ) (s : Set) : Type 0 where
  pub full : length ns ≡ length es
  pub wide : length ws ≡ 64
  pub stays : entries_of ns n ≡ r.stays
  pub left : s ≡ (λ (x : ℕ). in_list x r.left)
  pub values : from_bytes ws ≡ (λ (x : ℕ). cond (in_list x r.left) 0 (from_bytes vs x))

-- what a retreat from a blame answers, with the trail before and after it: none if no entry is blamed, else the culprit and the decisions that left
abbrev pub Retreated : Set → List Choice → List Choice → Option Retreat → Type 0
Retreated blame before after None = (retreat blame before ≡ None) × (after ≡ before)
Retreated blame before after (Some r) =
    (left : List ℕ) × (retreat blame before ≡ Some (record { culprit = entry_of r.culprit; left = left; stays = after }))
    × (members r.left ≡ (λ (x : ℕ). in_list x left)) × AllByRecursion (λ (x : ℕ). x < 64) left
