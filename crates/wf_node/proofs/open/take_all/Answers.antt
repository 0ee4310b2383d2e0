-- Each iteration applies one more record.
use Rattle.std.proofs.Common.{◌≡◌, refl, ◌∙◌, rules}
use Rattle.wf_node.specs.DurablePart.{stored_of}
use Rattle.wf_node.proofs.Folded.{none_taken, taken_more, room_there}
use Rattle.wf_node.proofs.open.take_all.Goals as goal

pub loop-entry-init : goal.loop-entry-init
loop-entry-init c =
    let whole : c.into_iter-entry-iterator.result.rest.items ≡ c.args.records.items = search rules in
    (none_taken (stored_of c.args.persistent.now) c.into_iter-entry-iterator.result.rest.items c.args.records.items c.requires.nothing whole, refl)

pub take_at-requires : goal.take_at-requires
take_at-requires c =
    room_there (stored_of c.loop-entry.persistent) c.loop-entry.index c.loop-entry.yielded c.loop-entry.entry-iterator.rest.items c.next.new.self.rest.items c.args.records.items
    c.in-Some.entry c.loop-entry.invariant.0 c.in-Some.ensures.steps.0 c.requires.size

pub loop-entry-preserved : goal.loop-entry-preserved
loop-entry-preserved c = (
  taken_more (stored_of c.loop-entry.persistent) (stored_of c.take_at.new.persistent) c.loop-entry.index c.in-Ok.next c.loop-entry.yielded c.loop-entry.entry-iterator.rest.items
      c.next.new.self.rest.items c.args.records.items c.in-Some.entry c.loop-entry.invariant.0 c.in-Some.ensures.steps.0 c.in-Ok.ensures.ok,
  c.take_at.ensures.id ∙ c.loop-entry.invariant.1,
)
