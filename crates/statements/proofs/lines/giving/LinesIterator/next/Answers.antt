use Rattle.std.proofs.Common.{◌+◌, length, sym, ap, arith}
use Rattle.reading.specs.Cursors.{left}
use Rattle.statements.proofs.Numbering.{one_line}
use Rattle.statements.proofs.lines.giving.LinesIterator.next.Goals as goal

pub returns-clause-goes : goal.returns-clause-goes
returns-clause-goes c =
    let given = one_line (c.args.self.now.given + 1) _ (left c.next.new.self) c.in_ok-piece.piece.bytes.now c.in_ok-piece.ensures.steps.first (sym c.if-is_end.ensures) in
    record { on = λ f. (tt, tt, omega (arith, ap length given)); keeps = tt; rests = λ f. tt }
