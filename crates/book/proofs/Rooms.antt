-- How long the text of an outcome, and that of a fault, can be.
use Rattle.std.proofs.lemmas.Grind.{common_steps}
use Rattle.std.proofs.Common.{ℕ, ◌+◌, ◌*◌, ◌^◌, ◌<◌, ◌≤◌, Bool, true, false, ltb, List, [], ◌∷◌, ◌++◌, length, Some, None, get_or, Fits, w8, decimal, arith, length-append}
use Rattle.std.proofs.lemmas.Bool.{cond_both}
use Rattle.std.proofs.lemmas.Fmt.{length-decimal-le}
use Rattle.std.proofs.ByRecursion.{All-from_get_or}
use Rattle.std.specs.List.{AllByRecursion}
use Rattle.measure.specs.declared.cents.Cents.{Cents}
use Rattle.measure.specs.declared.pair.Pair.{Pair}
use Rattle.measure.specs.declared.tier.Tier.{Tier}
use Rattle.rules.specs.Refusals.{number_of, layer_of}
use Rattle.rules.specs.declared.refusal.Layer.{Layer}
use Rattle.rules.specs.declared.refusal.Layer.TheVariants.{Text, Rule, Planner}
use Rattle.rules.specs.declared.refusal.Refusal.{Refusal}
use Rattle.account.specs.declared.state.State.{State}
use Rattle.account.specs.declared.state.State.TheVariants.{Open, Settled}
use Rattle.rendering.specs.Texts.{choice_line, choice_lines, cost_fields, ended, fault_line, fault_text, layer_text, outcome_text, outcome_word, spaced}
use Rattle.book.proofs.Sizes.{byte_short}

-- a number of a machine word has at most 20 digits
word_short : (n : ℕ) → n < 2 ^ 64 → length (decimal n) ≤ 20
word_short n h = length-decimal-le 20 n (omega arith) (omega arith) h

choice_short : (d v : ℕ) → d < 64 → v ≤ 255 → length (choice_line d v) ≤ 6
unfolding choice_line
choice_short d v few small =
    omega (arith, length-append (decimal d) (spaced (decimal v ∷ [])), length-append (decimal v) [], length-decimal-le 2 d (omega arith) (omega arith) (omega arith), byte_short v small)

-- the choices of decisions below 64 have at most 7 bytes each, with the byte that ends a line
choices_short : (d : ℕ) (plan : List ℕ) → d + length plan ≤ 64 → AllByRecursion (λ (v : ℕ). v ≤ 255) plan → length (ended (choice_lines d plan)) ≤ length plan * 7
choices_short d [] few small = omega arith
choices_short d (v ∷ vs) few small =
    let later = choices_short (d + 1) vs (omega arith) small.1 in
    cond_both (ltb 0 v) (choice_line d v ∷ choice_lines (d + 1) vs) (choice_lines (d + 1) vs) (λ (ls : List (List ℕ)). length (ended ls) ≤ length (v ∷ vs) * 7)
    (λ e. omega (arith, length-append (choice_line d v) (10 ∷ ended (choice_lines (d + 1) vs)), choice_short d v (omega arith) small.0, later))
    (λ e. omega (arith, later))

-- the fields of a cost of numbers as the code holds them
cost_short : (c : Pair Tier Cents) → c.first.level < 2 ^ 8 → c.second.sum < 2 ^ 64 → length (spaced (cost_fields c)) ≤ 25
cost_short c l s =
    omega (arith, length-append (decimal c.first.level) (spaced (decimal c.second.sum ∷ [])), length-append (decimal c.second.sum) [], byte_short c.first.level (omega arith), word_short c.second.sum s)

word_of_short : (s : State) (best : Bool) → length (outcome_word s best) ≤ 7
word_of_short Open best = omega arith
word_of_short Settled true = omega arith
word_of_short Settled false = omega arith

-- the text of an outcome without a best
pub bestless_short : (s : State) (plan : List ℕ) → length (outcome_text s None plan) ≤ 8
unfolding outcome_text
bestless_short s plan = omega (arith, length-append (outcome_word s false) (10 ∷ []), word_of_short s false)

-- the text of one with a best, whose numbers are as the code holds them, of at most 64 decisions
pub best_short : (s : State) (c : Pair Tier Cents) (plan : List ℕ) → c.first.level < 2 ^ 8 → c.second.sum < 2 ^ 64 → length plan ≤ 64 → ((i : ℕ) → Fits w8 (get_or plan i 0)) → length (outcome_text s (Some c) plan) ≤ 512
unfolding outcome_text
best_short s c plan tier cents few bytes =
    let fields = spaced (cost_fields c) in
    omega (
      arith,
      length-append (outcome_word s true ++ fields) (10 ∷ ended (choice_lines 0 plan)),
      length-append (outcome_word s true) fields,
      word_of_short s true,
      cost_short c tier cents,
      choices_short 0 plan (omega arith) (All-from_get_or (λ (v : ℕ). v ≤ 255) plan 0 (λ i lt. omega (arith, (bytes i).fits))),
    )

layer_short : (l : Layer) → length (layer_text l) ≤ 7
layer_short Text = omega arith
layer_short Rule = omega arith
layer_short Planner = omega arith

number_short : (r : Refusal) → length (decimal (number_of r)) ≤ 2
number_short r = length-decimal-le 2 (number_of r) (omega arith) (grind (arith, common_steps)) (grind (arith, common_steps))

-- of a fault at a line and a column that are machine words
pub fault_short : (r : Refusal) (line column : ℕ) → line < 2 ^ 64 → column < 2 ^ 64 → length (fault_text r line column) ≤ 64
unfolding fault_line
fault_short r line column l c =
    let layer = layer_text (layer_of (number_of r)) in
    let place = spaced (decimal line ∷ decimal column ∷ []) in
    omega (
      arith,
      length-append (decimal (number_of r) ++ 32 ∷ (layer ++ place)) (10 ∷ []),
      length-append (decimal (number_of r)) (32 ∷ (layer ++ place)),
      number_short r,
      length-append layer place,
      layer_short (layer_of (number_of r)),
      length-append (decimal line) (spaced (decimal column ∷ [])),
      word_short line l,
      length-append (decimal column) [],
      word_short column c,
    )
