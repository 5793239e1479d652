use Rattle.sets.specs.Members.{members}
use Rattle.tables.specs.Entries.{entry_of}
use Rattle.tables.specs.Excluded.{exclusions_of}
use Rattle.tables.specs.Trails.{trail_of}
use Rattle.planner.specs.Planners.{account_of}
use Rattle.planner.proofs.Stepped.{culprit_in_range, retreated}
use Rattle.planner.proofs.planner.Planner.retreat.Goals as goal

pub invariant_of-choice : goal.invariant_of-choice
invariant_of-choice g c =
    let found = c.in-Some.ensures in
    let (known, low, high) = culprit_in_range (members c.args.blamed) (trail_of c.args.self.now.trail) _ c.args.self.now.trail.distinct found.1 in
    record { known = known; some = low; few = high }

pub returns-in-Some : goal.returns-in-Some
returns-in-Some g c =
    let found = c.in-Some.ensures in
    retreated (account_of c.args.self.now) (members c.args.blamed) c.args.rests (trail_of c.retreat.new.self) (entry_of c.in-Some.retreat.culprit) found.0
    (members c.in-Some.retreat.left) (members c.without-reason.result) (exclusions_of c.forget.new.self) (exclusions_of c.put.new.self) found.1 found.2 found.3 c.without-reason.ensures c.forget.ensures c.put.ensures
