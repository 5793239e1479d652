use Rattle.std.proofs.Common.{◌≡◌, None, sym, ◌∙◌, arith}
use Rattle.std.proofs.lemmas.Bool.{eqb-true, eqb-false}
use Rattle.reading.specs.Numbers.{number_up_to}
use Rattle.reading.proofs.Numerals.{none_at, none_if_empty, none_if_zero, number_at}
use Rattle.reading.proofs.numbers.number.Goals as goal
use Rattle.reading.proofs.numbers.number.Goals.{then-is_empty-via-then-is_empty, then-is_empty-via-else-is_empty+then-has_leading_zero}

pub returns-then-is_empty-clause-value : goal.returns-then-is_empty-clause-value
returns-then-is_empty-clause-value c =
    elim c.then-is_empty.branch as (λ w. None ≡ number_up_to c.args.limit c.args.text.now) [
      | then-is_empty-via-then-is_empty w ↦ none_if_empty c.args.limit c.args.text.now (omega (arith, eqb-true _ 0 (sym c.is_empty.ensures ∙ w.if-is_empty.true)))
      | then-is_empty-via-else-is_empty+then-has_leading_zero w ↦ none_if_zero c.args.limit c.args.text.now (sym w.has_leading_zero.ensures ∙ w.if-has_leading_zero.true)
    ]

pub returns-in_err-number-clause-value : goal.returns-in_err-number-clause-value
returns-in_err-number-clause-value c =
    c.from_residual.ensures ∙ none_at c.args.limit c.args.text.now c.loop-byte.number c.loop-byte.byte-index c.loop-byte.invariant.0 c.loop-byte.invariant.1 c.loop-byte-test.true c.in_err-number.ensures

pub returns-clause-value : goal.returns-clause-value
returns-clause-value c =
    number_at c.args.limit c.args.text.now c.loop-byte.number c.loop-byte.byte-index c.loop-byte.invariant.0 c.loop-byte.invariant.1 c.loop-byte-test.false
    (omega (arith, eqb-false _ 0 (sym c.is_empty.ensures ∙ c.if-is_empty.false))) (sym c.has_leading_zero.ensures ∙ c.if-has_leading_zero.false) c.loop-byte.invariant.2
