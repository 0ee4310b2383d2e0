-- There is room for the record, so it is applied.
use Rattle.std.proofs.Common.{Option, IfSome, subst}
use Rattle.wf_journal.specs.declared.record.Record.{Record}
use Rattle.wf_node.specs.DurablePart.{stored_of, HasRoomFor}
use Rattle.wf_node.proofs.PersistentPart.{applied_entry, nothing_applied}
use Rattle.wf_node.proofs.stored_part.DurablePart.apply_entry.Goals as goal

pub returns-in-Some-clause-stored : goal.returns-in-Some-clause-stored
returns-in-Some-clause-stored c =
    let room = subst (λ (o : Option Record). IfSome o (HasRoomFor c.args.self.now)) c.in-Some.is c.requires.room in
    applied_entry c.apply.result (stored_of c.args.self.now) (stored_of c.apply.new.self) c.args.entry c.in-Some.entry c.in-Some.is (c.apply.ensures.room room) c.apply.ensures.ok

pub returns-in-None-clause-stored : goal.returns-in-None-clause-stored
returns-in-None-clause-stored c = nothing_applied (stored_of c.args.self.now) c.args.entry c.in-None.is
