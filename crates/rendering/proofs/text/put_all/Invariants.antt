use Rattle.std.proofs.Common.{◌≡◌, take}
use Rattle.std.specs.List.{flat_map, fold}
use Rattle.rendering.proofs.text.put_all.Given as goal

abbrev pub invariant-loop-item : goal.invariant-loop-item
invariant-loop-item g l = l.sink ≡ fold g.S.Sink.after l.initial.sink (flat_map g.T.Text.text (take l.item-index l.items))
