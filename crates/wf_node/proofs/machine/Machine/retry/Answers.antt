-- A retry is rejected as the proposer rejects it, and stores its round.
use Rattle.std.proofs.Common.{sym, subst, ap, ◌∙◌, IsSome}
use Rattle.wf_def.specs.Definition.{Definition}
use Rattle.wf_model.specs.Table.{Retry, Transition}
use Rattle.wf_proposer.specs.Proposer.{transition_of, volatile_of}
use Rattle.wf_proposer.specs.StepRejection.{step_rejection_of}
use Rattle.wf_node.specs.Act.{IsOwnRecord}
use Rattle.wf_node.specs.Fault.{ByEntry}
use Rattle.wf_node.specs.Parts.{stored_of}
use Rattle.wf_node.proofs.Acts.{act_done, act_proposer_rejects, step_rejection_retry, transition_fits, transition_retry}
use Rattle.wf_node.proofs.Transitions.{retry_own, retry_stores}
use Rattle.wf_node.proofs.machine.Machine.retry.Goals as goal

pub perform-requires-clause-fits : goal.perform-requires-clause-fits
perform-requires-clause-fits g c =
    transition_fits c.args.self.now.persistent.parts c.args.self.now.proposer Retry (transition_of c.args.self.now.proposer c.in-Ok.next) c.requires.fits c.requires.for_next
    (c.in-Ok.ensures.transition (stored_of c.args.self.now.persistent.parts) (sym c.last_round.ensures) c.requires.for_next ∙ transition_retry c.args.self.now.persistent.parts c.args.self.now.proposer)

pub perform-requires-clause-own : goal.perform-requires-clause-own
perform-requires-clause-own g c =
    subst (λ (r : Transition Definition). IsOwnRecord r.entry) (sym (c.in-Ok.ensures.transition (stored_of c.args.self.now.persistent.parts) (sym c.last_round.ensures) c.requires.for_next)) (retry_own c.args.self.now.proposer.node (stored_of c.args.self.now.persistent.parts) (volatile_of c.args.self.now.proposer))

pub returns-in-Ok-clause-act : goal.returns-in-Ok-clause-act
returns-in-Ok-clause-act g c =
    act_done g.T.Tape Retry (transition_of c.args.self.now.proposer c.in-Ok.next) c.args.self.now.journal c.perform.new.self.journal c.args.self.now.persistent.parts c.perform.new.self.persistent.parts c.args.self.now.proposer c.perform.new.self.proposer c.perform.result
    (step_rejection_retry (stored_of c.args.self.now.persistent.parts) (volatile_of c.args.self.now.proposer) ∙ sym (c.in-Ok.ensures.refused (stored_of c.args.self.now.persistent.parts) (sym c.last_round.ensures))) (c.in-Ok.ensures.transition (stored_of c.args.self.now.persistent.parts) (sym c.last_round.ensures) c.requires.for_next ∙ transition_retry c.args.self.now.persistent.parts c.args.self.now.proposer) c.perform.ensures.change

pub returns-in-Err-clause-act : goal.returns-in-Err-clause-act
returns-in-Err-clause-act g c =
    act_proposer_rejects g.T.Tape _ Retry c.in-Err.step_rejection c.fault_of.result c.args.self.now.journal c.args.self.now.persistent.parts c.args.self.now.proposer c.fault_of.ensures
    (c.in-Err.ensures.refused (stored_of c.args.self.now.persistent.parts) (sym c.last_round.ensures) ∙ sym (step_rejection_retry (stored_of c.args.self.now.persistent.parts) (volatile_of c.args.self.now.proposer))) c.requires.running
    (λ short. ByEntry (subst (λ (r : Transition Definition). IsSome r.entry) (transition_retry c.args.self.now.persistent.parts c.args.self.now.proposer)
    (retry_stores c.args.self.now.proposer.node (stored_of c.args.self.now.persistent.parts) (volatile_of c.args.self.now.proposer) (sym (c.in-Err.ensures.refused (stored_of c.args.self.now.persistent.parts) (sym c.last_round.ensures)) ∙ ap step_rejection_of short))))
