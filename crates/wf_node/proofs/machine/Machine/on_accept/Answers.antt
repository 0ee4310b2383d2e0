-- A published definition is sent; otherwise the acceptor answers.
use Rattle.std.proofs.Common.{Err, refl, sym, ◌∙◌}
use Rattle.wf_model.specs.Message as model
use Rattle.wf_model.specs.Table.{Deliver, on_accept, reports}
use Rattle.wf_proposer.specs.Proposer.{volatile_of}
use Rattle.wf_node.specs.declared.fault.NodeFault.TheVariants.{Memory}
use Rattle.wf_node.specs.Parts.{stored_of}
use Rattle.wf_node.proofs.Acts.{act_given, act_only_sends, act_short, answer_fits, delivered, accept_transition, stored_takes}
use Rattle.wf_node.proofs.Transitions.{accept_reported}
use Rattle.wf_node.proofs.machine.Machine.on_accept.Goals as goal

pub returns-then-is_published-clause-act : goal.returns-then-is_published-clause-act
returns-then-is_published-clause-act g c =
    act_only_sends g.T.Tape (Deliver (model.Accept c.args.slot c.args.ballot c.args.canon)) (reports c.args.self.now.persistent.parts.history c.args.slot) c.args.self.now.journal c.args.self.now.persistent.parts c.args.self.now.proposer c.report.result
    (delivered _ _ _) c.requires.running
    (sym (accept_transition c.args.self.now.proposer.node c.args.self.now.persistent.parts c.args.self.now.proposer c.args.slot c.args.ballot c.args.canon refl) ∙
    accept_reported c.args.self.now.proposer.node (stored_of c.args.self.now.persistent.parts) (volatile_of c.args.self.now.proposer) c.args.slot c.args.ballot c.args.canon (sym c.is_published.ensures ∙ c.if-is_published.true))
    c.report.ensures

pub give-requires-clause-fits : goal.give-requires-clause-fits
give-requires-clause-fits g c =
    answer_fits (Deliver (model.Accept c.args.slot c.args.ballot c.args.canon)) (λ volatile. on_accept c.args.self.now.persistent.id (stored_of c.args.self.now.persistent.parts) volatile c.args.slot c.args.ballot c.args.canon) c.in-Ok.answer c.args.self.now.persistent.parts c.on_accept.new.self.parts c.args.self.now.proposer c.requires.fits c.requires.for_next
    c.in-Ok.ensures.transition (accept_transition c.args.self.now.persistent.id c.args.self.now.persistent.parts c.args.self.now.proposer c.args.slot c.args.ballot c.args.canon c.requires.same_node) c.on_accept.ensures.parts

pub returns-in-Ok-clause-act : goal.returns-in-Ok-clause-act
returns-in-Ok-clause-act g c =
    act_given g.T.Tape (Deliver (model.Accept c.args.slot c.args.ballot c.args.canon)) (λ volatile. on_accept c.args.self.now.persistent.id (stored_of c.args.self.now.persistent.parts) volatile c.args.slot c.args.ballot c.args.canon) c.in-Ok.answer c.args.self.now.journal c.give.new.self.journal c.args.self.now.persistent.parts c.on_accept.new.self.parts c.give.new.self.persistent.parts c.args.self.now.proposer c.give.new.self.proposer c.give.result
    (delivered _ _ _) c.in-Ok.ensures.transition (accept_transition c.args.self.now.persistent.id c.args.self.now.persistent.parts c.args.self.now.proposer c.args.slot c.args.ballot c.args.canon c.requires.same_node) c.on_accept.ensures.parts c.give.ensures.change

pub returns-in-Err-clause-act : goal.returns-in-Err-clause-act
returns-in-Err-clause-act g c =
    act_short g.T.Tape (Deliver (model.Accept c.args.slot c.args.ballot c.args.canon)) c.args.self.now.journal c.args.self.now.persistent.parts c.on_accept.new.self.parts c.args.self.now.proposer (Err Memory)
    (delivered _ _ _) c.requires.running refl c.on_accept.ensures.parts
    (stored_takes (Deliver (model.Accept c.args.slot c.args.ballot c.args.canon)) (λ volatile. on_accept c.args.self.now.persistent.id (stored_of c.args.self.now.persistent.parts) volatile c.args.slot c.args.ballot c.args.canon) c.args.self.now.persistent.parts c.args.self.now.proposer c.in-Err.ensures.memory (accept_transition c.args.self.now.persistent.id c.args.self.now.persistent.parts c.args.self.now.proposer c.args.slot c.args.ballot c.args.canon c.requires.same_node))
