use Rattle.std.proofs.Common.{◌≡◌, ◌<◌, length, take, rules, arith, ap, ◌∙◌}
use Rattle.std.proofs.lemmas.Iterator.{YieldsList-from_take}
use Rattle.std.proofs.lemmas.Iterator.Consumers.{count_from_yields_List}
use Rattle.std.proofs.lemmas.List.{length-take}
use Rattle.reading.specs.Cursors.{left}
use Rattle.statements.specs.Fields.{fields_of}
use Rattle.statements.proofs.Counts.{pieces_yielded}
use Rattle.statements.proofs.known.KnownLine.is_short.Goals as goal

pub returns-then-count-heads : goal.returns-then-count-heads
returns-then-count-heads c =
    let fs = fields_of c.args.self.now.line.bytes.now in
    let n : c.count.result ≡ length (take c.heads-heads.result fs) =
    count_from_yields_List c.take.result c.count.result c.count.ensures.ran (YieldsList-from_take c.heads-heads.result (pieces_yielded c.take.result.iter) c.take.ensures.count)
    ∙ ap (λ p. length (take c.heads-heads.result (left p))) c.take.ensures.source ∙ ap (λ gs. length (take c.heads-heads.result gs)) c.fields.ensures.fields in
    let few : length fs < c.heads-heads.result = omega (arith, n, length-take c.heads-heads.result fs, c.if-count-heads.true) in
    search rules
