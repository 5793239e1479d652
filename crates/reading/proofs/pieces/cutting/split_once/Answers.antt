use Rattle.std.proofs.Common.{◌+◌, List, ℕ, take, Some, None, ap, ◌∙◌}
use Rattle.std.proofs.lemmas.List.{take_rest}
use Rattle.reading.proofs.Cuts.{halves_are}
use Rattle.reading.proofs.pieces.cutting.split_once.Goals as goal

pub returns-in_err-place : goal.returns-in_err-place
returns-in_err-place c = let e = halves_are c.args.at c.args.text.now None c.in_err-place.ensures in let r = c.from_residual.ensures in rw r e

pub returns : goal.returns
returns c =
    let n = c.in_ok-place.place in
    ap (λ (ys : List ℕ). Some (take n c.args.text.now, ys)) (take_rest c.args.text.now (n + 1)) ∙ halves_are c.args.at c.args.text.now (Some n) c.in_ok-place.ensures
