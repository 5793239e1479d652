use Rattle.std.proofs.Common.{◌≡◌, take}
use Rattle.std.specs.List.{fold}
use Rattle.rendering.specs.Texts.{choice_lines, ended}
use Rattle.rendering.proofs.outcome.put_choices.Given as goal

abbrev pub invariant-loop-decision : goal.invariant-loop-decision
invariant-loop-decision g l = l.sink ≡ fold g.S.Sink.after l.initial.sink (ended (choice_lines 0 (take l.decision l.plan)))
