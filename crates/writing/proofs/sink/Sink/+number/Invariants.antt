use Rattle.writing.proofs.sink.Sink.+number.Given as goal

abbrev pub decreases-number : goal.decreases-number
decreases-number g l = l.number
