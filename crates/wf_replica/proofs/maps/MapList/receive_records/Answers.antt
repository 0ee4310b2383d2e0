-- Record after record is that of the next map, or one isn't.
use Rattle.std.proofs.Common.{rules, ◌≡◌, true, false, subst}
use Rattle.wf_journal.specs.Record.{view}
use Rattle.wf_replica.proofs.Recorded.{more_read, none_read, other_read}
use Rattle.wf_replica.specs.MapList.{maps_of}
use Rattle.wf_replica.specs.Recorded.{IsNextLearned}
use Rattle.wf_replica.proofs.maps.MapList.receive_records.Goals as goal

pub loop-entry-init : goal.loop-entry-init
loop-entry-init c = (c.requires.read, none_read view c.args.records.now (maps_of c.args.self.now) c.requires.empty)

pub loop-entry-preserved : goal.loop-entry-preserved
loop-entry-preserved c =
    let old = maps_of c.loop-entry.self in
    let new = maps_of c.receive_record.new.self in
    let is : c.in_ok-receive_record.field-0 ≡ true = search rules in
    let learned : IsNextLearned true (view c.entry-item.result) old new =
    subst (λ b. IsNextLearned b (view c.entry-item.result) old new) is c.in_ok-receive_record.ensures.learned in (
      c.in_ok-receive_record.ensures.read,
      more_read view c.args.records.now c.loop-entry.entry-index c.entry-item.result old new c.loop-entry-test.true c.entry-item.is learned c.loop-entry.invariant.1,
    )

pub returns-then-not-branch-clause-learned : goal.returns-then-not-branch-clause-learned
returns-then-not-branch-clause-learned c =
    let old = maps_of c.loop-entry.self in
    let new = maps_of c.receive_record.new.self in
    let is : c.in_ok-receive_record.field-0 ≡ false = search rules in
    let other : IsNextLearned false (view c.entry-item.result) old new =
    subst (λ b. IsNextLearned b (view c.entry-item.result) old new) is c.in_ok-receive_record.ensures.learned in
    other_read view c.args.records.now c.loop-entry.entry-index c.entry-item.result old new c.loop-entry-test.true c.entry-item.is other c.loop-entry.invariant.1
