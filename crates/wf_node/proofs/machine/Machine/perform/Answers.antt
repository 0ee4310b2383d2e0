-- If the record can't be written, the parts are unchanged.
use Rattle.std.proofs.Common.{Global, Err, option_map, refl, subst, ap, ◌∙◌}
use Rattle.wf_proposer.specs.Proposer.{transition_of}
use Rattle.wf_journal.specs.Record.{view}
use Rattle.wf_node.specs.TapeWrites.{IsWrite, keeping}
use Rattle.wf_node.proofs.Replies.{write_fails}
use Rattle.wf_node.proofs.machine.Machine.perform.Goals as goal

pub returns-in-Err-clause-change : goal.returns-in-Err-clause-change
returns-in-Err-clause-change g c =
    write_fails g.T.Tape Global (Unit {0}) (transition_of c.args.self.now.proposer c.args.next) c.args.self.now.journal c.store.new.journal c.keep_unwritten.new.journal
    c.args.self.now.persistent.parts c.make_room_for.new.self.parts c.args.self.now.proposer c.in-Err.fault (option_map view c.args.next.entry) c.make_room_for.ensures.parts refl
    (subst (λ entry. IsWrite g.T.Tape {A = Unit {0}} (option_map view entry) c.args.self.now.journal (Err c.in-Err.fault) c.store.new.journal) c.entry-2.ensures c.in-Err.ensures)
    (c.keep_unwritten.ensures ∙ ap (λ entry. keeping c.in-Err.fault (option_map view entry) c.store.new.journal) c.into_entry.ensures)
