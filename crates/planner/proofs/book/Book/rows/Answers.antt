use Rattle.std.proofs.lemmas.Grind.{common_steps}
use Rattle.std.proofs.Common.{arith}
use Rattle.planner.proofs.Shaped.{known_from_shaped}
use Rattle.planner.proofs.book.Book.rows.Goals as goal

pub returns : goal.returns
returns c = grind (arith, common_steps, known_from_shaped)
