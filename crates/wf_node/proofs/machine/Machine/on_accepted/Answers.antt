-- The proposer returns the transition, or allocation fails for what it would send.
use Rattle.std.proofs.Common.{refl, sym, subst, ◌∙◌}
use Rattle.wf_def.specs.Definition.{Definition}
use Rattle.wf_model.specs.Message as model
use Rattle.wf_model.specs.Table.{Deliver, Transition}
use Rattle.wf_proposer.specs.Next.{Sends}
use Rattle.wf_proposer.specs.Proposer.{transition_of, volatile_of}
use Rattle.wf_node.specs.Act.{IsOwnRecord}
use Rattle.wf_node.proofs.Acts.{act_done, act_sends, delivered, transition_fits, transition_accepted}
use Rattle.wf_node.proofs.Transitions.{accepted_own}
use Rattle.wf_node.proofs.machine.Machine.on_accepted.Goals as goal

pub perform-requires-clause-fits : goal.perform-requires-clause-fits
perform-requires-clause-fits g c =
    transition_fits c.args.self.now.persistent.parts c.args.self.now.proposer (Deliver (model.Accepted c.args.from c.args.slot c.args.ballot)) (transition_of c.args.self.now.proposer c.in-Ok.next) c.requires.fits c.requires.for_next
    (c.in-Ok.ensures.transition ∙ transition_accepted c.args.self.now.persistent.parts c.args.self.now.proposer c.args.from c.args.slot c.args.ballot)

pub perform-requires-clause-own : goal.perform-requires-clause-own
perform-requires-clause-own g c = subst (λ (r : Transition Definition). IsOwnRecord r.entry) (sym c.in-Ok.ensures.transition) (accepted_own c.args.self.now.proposer.nodes (volatile_of c.args.self.now.proposer) c.args.from c.args.slot c.args.ballot)

pub returns-in-Ok-clause-act : goal.returns-in-Ok-clause-act
returns-in-Ok-clause-act g c =
    act_done g.T.Tape (Deliver (model.Accepted c.args.from c.args.slot c.args.ballot)) (transition_of c.args.self.now.proposer c.in-Ok.next) c.args.self.now.journal c.perform.new.self.journal c.args.self.now.persistent.parts c.perform.new.self.persistent.parts c.args.self.now.proposer c.perform.new.self.proposer c.perform.result
    (delivered _ _ _) (c.in-Ok.ensures.transition ∙ transition_accepted c.args.self.now.persistent.parts c.args.self.now.proposer c.args.from c.args.slot c.args.ballot) c.perform.ensures.change

pub returns-in-Err-clause-act : goal.returns-in-Err-clause-act
returns-in-Err-clause-act g c =
    act_sends g.T.Tape _ _ (Deliver (model.Accepted c.args.from c.args.slot c.args.ballot)) c.in-Err.step_rejection c.fault_of.result c.args.self.now.journal c.args.self.now.persistent.parts c.args.self.now.proposer c.fault_of.ensures
    (delivered _ _ _) c.requires.running
    (let short = c.in-Err.ensures.memory refl in (subst Sends (transition_accepted c.args.self.now.persistent.parts c.args.self.now.proposer c.args.from c.args.slot c.args.ballot) short.0, short.1))
