-- If the record can't be written, the parts are unchanged.
use Rattle.std.proofs.Common.{Global, Err, option_map, refl, subst}
use Rattle.wf_acceptor.specs.AcceptorAnswer as answered
use Rattle.wf_proposer.specs.Proposer.{volatile_of}
use Rattle.wf_journal.specs.Record.{view}
use Rattle.wf_node.specs.TapeWrites.{IsWrite}
use Rattle.wf_node.proofs.Replies.{write_fails}
use Rattle.wf_node.proofs.machine.Machine.give.Goals as goal

pub returns-in-Err-store-clause-change : goal.returns-in-Err-store-clause-change
returns-in-Err-store-clause-change g c =
    write_fails g.T.Tape Global (Unit {0}) (answered.transition_of c.args.answer (volatile_of c.args.self.now.proposer)) c.args.self.now.journal c.store.new.journal c.keep_unwritten.new.journal
    c.args.self.now.persistent.parts c.args.self.now.persistent.parts c.args.self.now.proposer c.in-Err-store.fault (option_map view c.args.answer.entry) refl refl
    (subst (λ entry. IsWrite g.T.Tape {A = Unit {0}} (option_map view entry) c.args.self.now.journal (Err c.in-Err-store.fault) c.store.new.journal) c.as_ref.ensures.value c.in-Err-store.ensures)
    c.keep_unwritten.ensures
