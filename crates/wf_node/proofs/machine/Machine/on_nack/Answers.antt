-- The highest reported round is kept.
use Rattle.std.proofs.Common.{ap, ◌∙◌}
use Rattle.wf_def.specs.Definition.{Definition}
use Rattle.wf_model.specs.Message as model
use Rattle.wf_model.specs.Table.{Deliver, Transition}
use Rattle.wf_proposer.specs.Proposer.{transition_of, volatile_of}
use Rattle.wf_node.proofs.Acts.{act_done, delivered, transition_fits, transition_nack}
use Rattle.wf_node.proofs.Transitions.{none_own, nack_stores_none}
use Rattle.wf_node.proofs.machine.Machine.on_nack.Goals as goal

pub perform-requires-clause-fits : goal.perform-requires-clause-fits
perform-requires-clause-fits g c =
    transition_fits c.args.self.now.persistent.parts c.args.self.now.proposer (Deliver (model.Nack c.args.from c.args.slot c.args.ballot c.args.promised)) (transition_of c.args.self.now.proposer c.on_nack-next.result) c.requires.fits c.requires.for_next
    (c.on_nack-next.ensures ∙ transition_nack c.args.self.now.persistent.parts c.args.self.now.proposer c.args.from c.args.slot c.args.ballot c.args.promised)

pub perform-requires-clause-own : goal.perform-requires-clause-own
perform-requires-clause-own g c =
    none_own _ (ap (λ (r : Transition Definition). r.entry) c.on_nack-next.ensures ∙ nack_stores_none (volatile_of c.args.self.now.proposer) c.args.slot c.args.ballot c.args.promised)

pub returns-clause-act : goal.returns-clause-act
returns-clause-act g c =
    act_done g.T.Tape (Deliver (model.Nack c.args.from c.args.slot c.args.ballot c.args.promised)) (transition_of c.args.self.now.proposer c.on_nack-next.result) c.args.self.now.journal c.perform.new.self.journal c.args.self.now.persistent.parts c.perform.new.self.persistent.parts c.args.self.now.proposer c.perform.new.self.proposer c.perform.result
    (delivered _ _ _) (c.on_nack-next.ensures ∙ transition_nack c.args.self.now.persistent.parts c.args.self.now.proposer c.args.from c.args.slot c.args.ballot c.args.promised) c.perform.ensures.change
