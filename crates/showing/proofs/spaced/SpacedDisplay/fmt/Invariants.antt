use Rattle.std.proofs.Common.{take}
use Rattle.std.specs.Fmt.{HasWritten, IsPlainFormatter}
use Rattle.std.specs.Option.{IfSome}
use Rattle.showing.specs.Texts.{each_after_a_space}
use Rattle.showing.proofs.spaced.SpacedDisplay.fmt.Given as goal

-- what the loop has been through is written, a space before each item
abbrev pub invariant-loop-item : goal.invariant-loop-item
invariant-loop-item g l =
    IsPlainFormatter l.initial.f → IfSome (each_after_a_space g.T.Display.output (take l.item-index l.rest)) (λ bs. HasWritten g.W.Write.write_str_gives l.initial.f bs l.f)
