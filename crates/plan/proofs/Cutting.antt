-- Of a text that is too large for a book only that matters.
use Rattle.std.proofs.Common.{◌≡◌, ℕ, Bool, true, false, cond, ltb, List, ◌++◌, length, take, drop, Some, None, Ok, Err, IfSome, Option, Result, sym, refl, ap, ◌∙◌, arith, length-take}
use Rattle.std.proofs.Math.Seq.{take-append_seam}
use Rattle.std.proofs.lemmas.Bool.{lt-ltb, ltb-false, ltb-true}
use Rattle.std.proofs.lemmas.List.{take_all}
use Rattle.measure.specs.Meaning.{Meaning}
use Rattle.measure.specs.declared.cents.Cents.{Cents}
use Rattle.measure.specs.declared.pair.Pair.{Pair}
use Rattle.measure.specs.declared.tier.Tier.{Tier}
use Rattle.rules.specs.declared.refusal.Refusal.{Refusal}
use Rattle.rules.specs.declared.refusal.Refusal.TheVariants.{ShortText}
use Rattle.rendering.specs.Fills.{counted, filled}
use Rattle.book.specs.Loads.{loaded}
use Rattle.book.specs.Outcomes.{plan_text, planned_text}

-- a text that was written whole stands in front
pub told : (text old new : List ℕ) (n : ℕ) → counted text old ≡ Ok n → new ≡ filled text old → take n new ≡ text
told text old new n count fill = go (ltb (length old) (length text)) count fill
  where
    go : (short : Bool) → ◌≡◌ {A = Result ℕ Refusal} (cond short (Err ShortText) (Ok (length text))) (Ok n) → new ≡ cond short old (text ++ drop (length text) old) → take n new ≡ text
    go true p q = cc
    go false p q =
        let many : length text ≡ n = cc in
        ap (take n) q ∙ ap (λ (k : ℕ). take k (text ++ drop (length text) old)) (sym many) ∙ take-append_seam text (drop (length text) old)

module _ (m : Meaning (Pair Tier Cents)) where
  -- one byte more than a book may have tells that it is too large
  cut_loads : (text : List ℕ) → loaded m (take 65537 text) ≡ loaded m text
  unfolding loaded
  cut_loads text = go (ltb 65536 (length text)) refl
    where
      go : (large : Bool) → ltb 65536 (length text) ≡ large → loaded m (take 65537 text) ≡ loaded m text
      go true e =
          let still : ltb 65536 (length (take 65537 text)) ≡ true = lt-ltb 65536 (length (take 65537 text)) (omega (arith, length-take 65537 text, ltb-true 65536 (length text) e)) in
          rw (e, still) refl
      go false e = ap (loaded m) (take_all 65537 text (omega (arith, ltb-false 65536 (length text) e)))

  -- so the plan of what is read is the plan of all that there is
  pub planned_whole : (known : Option (List ℕ)) (text plan : List ℕ) → IfSome known (λ bytes. text ≡ take 65537 bytes) → plan ≡ plan_text m text → IfSome known (λ bytes. plan ≡ plan_text m bytes)
  planned_whole None text plan read is = tt
  planned_whole (Some bytes) text plan read is = is ∙ ap (plan_text m) read ∙ ap (planned_text m) (cut_loads bytes)
