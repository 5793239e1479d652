use Rattle.std.proofs.Common.{◌≡◌, ◌++◌, length, drop, option_map}
use Rattle.engine.specs.Stated.{decisions_in}
use Rattle.engine.proofs.decoding.decisions_of.Given as goal

abbrev pub invariant-loop-pair : goal.invariant-loop-pair
invariant-loop-pair l =
    (decisions_in l.stated ≡ option_map (λ ds. l.decisions.items ++ ds) (decisions_in (drop l.pair-index l.stated))) × (length l.decisions.items ≡ l.pair-index)
