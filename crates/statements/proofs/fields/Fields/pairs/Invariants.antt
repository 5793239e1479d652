use Rattle.std.proofs.Common.{◌≡◌, []}
use Rattle.reading.specs.Cursors.{column, left}
use Rattle.statements.specs.Views.{pairs_of}
use Rattle.statements.proofs.Gathers.{gathered}
use Rattle.statements.proofs.fields.Fields.pairs.Given as goal

abbrev pub invariant-loop-field : goal.invariant-loop-field
invariant-loop-field l = gathered l.fn.self.line (column l.fn.self.pieces) (left l.fn.self.pieces) [] ≡ gathered l.fn.self.line (column l.field-iterator) (left l.field-iterator) (pairs_of l.pairs)
