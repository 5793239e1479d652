use Rattle.std.proofs.Common.{◌≡◌, ℕ, Bool, not, ◌&&◌, ◌||◌, ltb, List, length, MatchOption, None, ◌≤◌, ap, ◌∙◌, arith, rules, tests}
use Rattle.std.proofs.lemmas.Iterator.{YieldsList-from_range}
use Rattle.std.proofs.lemmas.Iterator.Consumers.{YieldsList-from_filter}
use Rattle.account.specs.Steps.{pick, waits}
use Rattle.rules.specs.Conditions.{from_bytes}
use Rattle.rules.specs.Plans.{enables, on_at}
use Rattle.rules.specs.declared.decision.Decision.{Decision}
use Rattle.rules.specs.declared.row.Row.{Row}
use Rattle.scans.proofs.Fits.{each_counts}
use Rattle.sets.specs.Members.{members}
use Rattle.planner.specs.Books.{IsDomain, book_of}
use Rattle.planner.proofs.Picks.{least_picked, pick_same, picked_domain}
use Rattle.planner.proofs.pick.pick_decision.Goals as goal

pub returns-clause-picked : goal.returns-clause-picked
returns-clause-picked c =
    let b = book_of c.args.book.now in
    let p = from_bytes c.args.plan.now in
    let ranks = from_bytes c.args.ranks.now in
    let ds = c.decisions-decisions.result.now in
    let n = length b.decisions in
    let waiting : ℕ → Bool = λ d. not (ltb 0 (p d)) && (on_at ds d || members c.enabled-targets.result d) in
    let same : length ds ≡ n = ap length c.decisions-decisions.ensures.value in
    let least : c.min_by_key.result ≡ pick ranks (waits b p) n =
    least_picked ranks _ _ (λ x k q h. search (rules, tests)) waiting n c.min_by_key.result c.min_by_key.ensures.ran
    (YieldsList-from_filter _ waiting (YieldsList-from_range 0 n n (c.filter.ensures.source ∙ ap (λ (k : ℕ). record { start = 0; end = k }) c.count.ensures) (omega arith)) c.filter.ensures.closure (λ x b q k. search (rules, tests)))
    ∙ pick_same ranks waiting (waits b p) n (λ d l.
    ap (λ (t : Bool). not (ltb 0 (p d)) && (on_at ds d || t)) (c.enabled-targets.ensures d (omega (arith, l, same, c.decisions-decisions.ensures.few)) ∙ ap (λ (xs : List Row). enables xs p d) (each_counts c.rows.result.now ∙ c.rows.ensures.value))
    ∙ ap (λ (xs : List Decision). not (ltb 0 (p d)) && (on_at xs d || enables b.activates p d)) c.decisions-decisions.ensures.value) in
    let named : MatchOption c.min_by_key.result (c.and_then.result ≡ None) (λ d. MatchOption c.and_then.result (length b.decisions ≤ d) (λ x. (x.decision ≡ d) × IsDomain b x)) = search (rules, tests) in
    picked_domain b ranks (waits b p) c.min_by_key.result c.and_then.result least named
