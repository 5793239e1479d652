use Rattle.std.proofs.lemmas.Grind.{common_steps}
use Rattle.std.proofs.Common.{arith}
use Rattle.tables.proofs.Cells.{exclusion_at, not_excluded, past_excluded}
use Rattle.tables.proofs.Marks.{value_known}
use Rattle.tables.proofs.exclusions.Exclusions.get.Goals as goal
use Rattle.tables.proofs.exclusions.Exclusions.get.Goals.{else-d-lt64-via-then-d-lt64+else-has, else-d-lt64-via-else-d-lt64}

pub cell-requires : goal.cell-requires
cell-requires c = grind (arith, common_steps, value_known)

pub returns-then-has : goal.returns-then-has
returns-then-has c = grind (arith, common_steps, exclusion_at)

pub returns-else-d-lt64 : goal.returns-else-d-lt64
returns-else-d-lt64 c = grind (arith, common_steps, else-d-lt64-via-then-d-lt64+else-has, not_excluded, else-d-lt64-via-else-d-lt64, past_excluded)
