use Rattle.std.proofs.Common.{◌≡◌, ℕ, min, ◌∙◌, arith}
use mathlib.Core.Path.{fun_ext}
use Rattle.sets.specs.Members.{members}
use Rattle.tables.specs.Excluded.{exclusions_of}
use Rattle.tables.proofs.Sparing.{keep_empty_is}
use Rattle.tables.proofs.exclusions.Exclusions.keep_empty.Goals as goal

pub returns : goal.returns
returns c =
    let whole : min c.args.count 64 ≡ c.args.count = omega arith in
    c.retain.ensures
    ∙ fun_ext (λ (d : ℕ). fun_ext (λ (v : ℕ). keep_empty_is (members c.first-barred.result) c.args.count c.args.resting c.requires (rw whole at c.first-barred.ensures) (exclusions_of c.args.self.now d v)))
