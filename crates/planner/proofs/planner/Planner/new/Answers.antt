use Rattle.std.proofs.Common.{ℕ, [], refl}
use mathlib.Core.Path.{fun_ext}
use Rattle.account.specs.Accounts.{fresh}
use Rattle.tables.proofs.Entering.{zeros}
use Rattle.planner.proofs.Called.{parts_same}
use Rattle.planner.proofs.planner.Planner.new.Goals as goal

pub returns : goal.returns
returns g c = parts_same _ (fresh []) c.new.ensures (fun_ext (λ (d : ℕ). zeros d)) c.new-2.ensures c.new-3.ensures refl refl
