use Rattle.std.proofs.Common.{◌≡◌, length, ap, ◌∙◌, arith}
use Rattle.sets.specs.declared.decision_set.DecisionSet.{DecisionSet}
use Rattle.tables.specs.Entries.{entry_of, newest_first}
use Rattle.tables.specs.declared.domain.Choice.{Choice}
use Rattle.tables.specs.declared.entry.Entry.{Entry}
use Rattle.tables.proofs.Entering.{Enters, room, entries_pushed, entered_proper, entered_values}
use Rattle.tables.proofs.trail.Trail.push.Goals as goal

abbrev entry : Choice → DecisionSet → Entry
entry choice support = record { decision = choice.decision; value = choice.value; support = support }

pub push-requires : goal.push-requires
push-requires c =
    let t = c.args.self.now in
    let e = entry c.args.choice c.args.support in
    (omega arith, room t.entries.items (entry_of e) t.distinct (record { known = c.args.choice.known; some = c.args.choice.some; few = c.args.choice.few; idle = c.requires }))

pub invariant_of-self : goal.invariant_of-self
invariant_of-self c =
    let t = c.args.self.now in
    let e = entry c.args.choice c.args.support in
    let h : Enters (entry_of e) (newest_first t.entries.items) = record { known = c.args.choice.known; some = c.args.choice.some; few = c.args.choice.few; idle = c.requires } in
    let wide : length t.values ≡ 64 = omega arith in
    rw c.push.ensures.items
    (record { distinct = entered_proper t.entries.items t.values e wide t.distinct h; planned = entered_values t.entries.items t.values e wide t.distinct h t.planned })

pub returns : goal.returns
returns c = ap newest_first c.push.ensures.items ∙ entries_pushed c.args.self.now.entries.items (entry c.args.choice c.args.support)
