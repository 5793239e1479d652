-- What best reports, as the text of an outcome.
use Rattle.std.proofs.lemmas.Grind.{common_steps}
use Rattle.std.proofs.Common.{arith}
use Rattle.std.proofs.Common.{◌≡◌, ℕ, List, map, length, take, drop, Some, None, Option, refl, ap, ◌∙◌}
use Rattle.std.specs.List.{range_with_len}
use Rattle.std.proofs.lemmas.List.FromFn.{length-map-range_with_len}
use Rattle.std.proofs.lemmas.List.{take_at}
use Rattle.measure.specs.Meaning.{Meaning}
use Rattle.measure.specs.declared.cents.Cents.{Cents}
use Rattle.measure.specs.declared.pair.Pair.{Pair}
use Rattle.measure.specs.declared.tier.Tier.{Tier}
use Rattle.rules.specs.declared.decision.Decision.{Decision}
use Rattle.account.specs.Accounts.{Account, Best}
use Rattle.account.specs.Calls.{answer, best, report, reported, written}
use Rattle.account.specs.declared.state.State.{State}
use Rattle.rendering.specs.Texts.{outcome_text}
use Rattle.book.specs.Outcomes.{account_text, outcome_of}

-- without a best the plan's bytes do not matter
planless : (s : State) (ps qs : List ℕ) → outcome_text s None ps ≡ outcome_text s None qs
unfolding outcome_text
planless s ps qs = refl

reported_text : (s t : State) (n : ℕ) (buffer bytes : List ℕ) (c : Option (Pair Tier Cents)) (b : Option (Best (Pair Tier Cents))) → reported t c bytes ≡ report s n buffer b → outcome_text t c (take n bytes) ≡ outcome_of s n b
reported_text s t n buffer bytes c None e = grind (arith, common_steps, planless)
reported_text s t n buffer bytes c (Some b) e =
    let p : t ≡ s = cc in
    let q : c ≡ Some b.cost = cc in
    let w : bytes ≡ written n b.plan buffer = cc in
    ap (λ (x : State). outcome_text x c (take n bytes)) p ∙ ap (λ (x : Option (Pair Tier Cents)). outcome_text s x (take n bytes)) q
    ∙ ap (outcome_text s (Some b.cost))
    (ap (take n) w ∙ take_at (map b.plan (range_with_len 0 n)) (drop n buffer) n (length-map-range_with_len b.plan 0 n))

-- of a cost and decisions that are known
pub reports : (m : Meaning (Pair Tier Cents)) (a : Account (Pair Tier Cents)) (buffer bytes : List ℕ) (t : State) (c d : Option (Pair Tier Cents)) (ds : List Decision) → reported t c bytes ≡ answer m a (best buffer) → c ≡ d → ds ≡ a.book.decisions → outcome_text t d (take (length ds) bytes) ≡ account_text a
reports m a buffer bytes t c d ds e h k = grind (arith, common_steps, best, reported_text)
