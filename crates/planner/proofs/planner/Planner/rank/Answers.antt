use Rattle.std.proofs.Common.{ℕ, ◌<◌, length, set, refl, ap, ◌∙◌, arith}
use Rattle.account.specs.Calls.{leaves, rank}
use Rattle.rules.specs.Conditions.{from_bytes}
use Rattle.rules.specs.declared.refusal.Refusal.TheVariants.{UnknownDecision}
use Rattle.planner.specs.Planners.{account_of}
use Rattle.planner.proofs.Called.{accepts, known_decision, parts_same, rank_set}
use Rattle.planner.proofs.planner.Planner.rank.Goals as goal

pub returns : goal.returns
returns g c =
    let m = g.M.Measure.meaning in
    let a = account_of c.args.self.now in
    let (same, (size, known)) = c.in_ok-domain.ensures.known in
    let low : c.args.decision < length a.book.decisions = omega (arith, same, known) in
    let (told, left) = accepts m a (rank c.args.decision c.args.rank) (known_decision (length a.book.decisions) c.args.decision UnknownDecision low) in
    let ranked = ap (λ (d : ℕ). from_bytes (set c.args.self.now.ranks d c.args.rank)) (c.from.ensures ∙ same) ∙ rank_set c.args.self.now.ranks c.args.decision c.args.rank (omega (arith, low, c.args.self.now.book.few)) in
    record { value = told; after = parts_same _ (leaves m a (rank c.args.decision c.args.rank)) refl ranked refl refl refl refl ∙ left }
