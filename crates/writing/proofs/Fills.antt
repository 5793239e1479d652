-- Whole texts, given to a counter or to a filler.
use Rattle.std.proofs.Common.{◌≡◌, ℕ, ◌+◌, ◌-◌, ◌^◌, ◌<◌, ◌≤◌, true, ltb, List, [], ◌∷◌, ◌++◌, length, drop, set, ap, ◌∙◌, ap₂, add-one, zero-add, arith, length-set}
use Rattle.std.specs.Prelude.{min}
use Rattle.std.specs.List.{fold}
use Rattle.std.proofs.lemmas.Bool.{cond-true, lt-ltb}
use Rattle.std.proofs.lemmas.List.Edits.{sets, sets-eq}
use Rattle.writing.specs.Sinks.{counted, stored}
use Rattle.writing.specs.declared.counter.Counter.{Counter}
use Rattle.writing.specs.declared.filler.Filler.{Filler}

-- the count of a text
pub counts : (c : Counter) (xs : List ℕ) → c.count < 2 ^ 64 → (fold counted c xs).count ≡ min (c.count + length xs) (2 ^ 64 - 1)
counts c [] h = omega arith
counts c (x ∷ xs) h = counts (counted c x) xs (omega arith) ∙ omega arith

-- a filler with another buffer, at another place
abbrev pub standing : Filler → List ℕ → ℕ → Filler
standing f bytes at = record f { buffer = record f.buffer { now = bytes }; at = at }

-- a text that finds room is stored byte by byte
stores : (f : Filler) (xs : List ℕ) → f.at + length xs ≤ length f.buffer.now → fold stored f xs ≡ standing f (sets f.buffer.now f.at xs) (f.at + length xs)
stores f [] h = ap (standing f f.buffer.now) (let e : f.at ≡ f.at + 0 = omega arith in e)
stores f (x ∷ xs) h =
    let next = standing f (set f.buffer.now f.at x) (f.at + 1) in
    ap (λ (g : Filler). fold stored g xs) (cond-true (ltb f.at (length f.buffer.now)) next record f { full = true } (lt-ltb f.at (length f.buffer.now) (omega arith)))
    ∙ stores next xs (omega (arith, length-set f.buffer.now f.at x))
    ∙ ap₂ (λ (k n : ℕ). standing f (sets next.buffer.now k xs) n) (add-one f.at) (omega arith)

-- from the buffer's start
pub fills : (f : Filler) (xs : List ℕ) → f.at ≡ 0 → length xs ≤ length f.buffer.now → fold stored f xs ≡ standing f (xs ++ drop (length xs) f.buffer.now) (length xs)
fills f xs start h =
    stores f xs (omega arith)
    ∙ ap₂ (standing f) (ap (λ (k : ℕ). sets f.buffer.now k xs) start ∙ sets-eq xs f.buffer.now 0 (omega arith) ∙ ap (λ (k : ℕ). xs ++ drop k f.buffer.now) (zero-add (length xs))) (omega arith)
