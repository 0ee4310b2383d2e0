-- A proposal is rejected while one is running, then if the last sequence is published, then as the
-- proposer rejects it.
use Rattle.std.proofs.Common.{length, Err, refl, sym, subst, ap, ◌∙◌}
use Rattle.wf_def.specs.Definition.{Definition}
use Rattle.wf_model.specs.Table.{Propose, Transition, Busy, SequenceFull}
use Rattle.wf_proposer.specs.Proposer.{transition_of, volatile_of}
use Rattle.wf_node.specs.declared.fault.NodeFault.TheVariants as fault
use Rattle.wf_node.specs.Act.{IsOwnRecord}
use Rattle.wf_node.specs.Fault.{TakesMemory}
use Rattle.wf_node.specs.Parts.{stored_of}
use Rattle.wf_node.proofs.Acts.{act_done, act_proposer_rejects, act_rejected, step_rejection_propose, transition_fits, transition_propose}
use Rattle.wf_node.proofs.Transitions.{busy, full, has_stored, propose_own, propose_takes}
use Rattle.wf_node.proofs.machine.Machine.propose.Goals as goal

pub returns-then-runs-clause-act : goal.returns-then-runs-clause-act
returns-then-runs-clause-act g c =
    act_rejected g.T.Tape (Propose c.args.own) Busy c.args.self.now.journal c.args.self.now.persistent.parts c.args.self.now.proposer (Err fault.Busy)
    (step_rejection_propose (stored_of c.args.self.now.persistent.parts) (volatile_of c.args.self.now.proposer) c.args.own ∙ busy (stored_of c.args.self.now.persistent.parts) (volatile_of c.args.self.now.proposer).leadership (volatile_of c.args.self.now.proposer).proposing (sym c.runs.ensures ∙ c.if-runs.true)) refl

pub returns-then-is_full-clause-act : goal.returns-then-is_full-clause-act
returns-then-is_full-clause-act g c =
    act_rejected g.T.Tape (Propose c.args.own) SequenceFull c.args.self.now.journal c.args.self.now.persistent.parts c.args.self.now.proposer (Err fault.SequenceFull)
    (step_rejection_propose (stored_of c.args.self.now.persistent.parts) (volatile_of c.args.self.now.proposer) c.args.own ∙ full (stored_of c.args.self.now.persistent.parts) (volatile_of c.args.self.now.proposer).leadership (volatile_of c.args.self.now.proposer).proposing (sym c.runs.ensures ∙ c.if-runs.false) (sym c.is_full.ensures ∙ c.if-is_full.true)) refl

pub perform-requires-clause-fits : goal.perform-requires-clause-fits
perform-requires-clause-fits g c =
    transition_fits c.args.self.now.persistent.parts c.args.self.now.proposer (Propose c.args.own) (transition_of c.args.self.now.proposer c.in-Ok.next) c.requires.fits c.requires.for_next
    (c.in-Ok.ensures.transition (stored_of c.args.self.now.persistent.parts) (has_stored (stored_of c.args.self.now.persistent.parts) c.last_round-tried.result c.published-published.result c.last_round-tried.ensures (c.published-published.ensures.value ∙ ap length c.history.ensures)) ∙ transition_propose c.args.self.now.persistent.parts c.args.self.now.proposer c.args.own)

pub perform-requires-clause-own : goal.perform-requires-clause-own
perform-requires-clause-own g c =
    subst (λ (r : Transition Definition). IsOwnRecord r.entry) (sym (c.in-Ok.ensures.transition (stored_of c.args.self.now.persistent.parts) (has_stored (stored_of c.args.self.now.persistent.parts) c.last_round-tried.result c.published-published.result c.last_round-tried.ensures (c.published-published.ensures.value ∙ ap length c.history.ensures)))) (propose_own c.args.self.now.proposer.node (stored_of c.args.self.now.persistent.parts) (volatile_of c.args.self.now.proposer) c.args.own)

pub returns-in-Ok-clause-act : goal.returns-in-Ok-clause-act
returns-in-Ok-clause-act g c =
    act_done g.T.Tape (Propose c.args.own) (transition_of c.args.self.now.proposer c.in-Ok.next) c.args.self.now.journal c.perform.new.self.journal c.args.self.now.persistent.parts c.perform.new.self.persistent.parts c.args.self.now.proposer c.perform.new.self.proposer c.perform.result
    (step_rejection_propose (stored_of c.args.self.now.persistent.parts) (volatile_of c.args.self.now.proposer) c.args.own ∙ sym (c.in-Ok.ensures.refused (stored_of c.args.self.now.persistent.parts) (has_stored (stored_of c.args.self.now.persistent.parts) c.last_round-tried.result c.published-published.result c.last_round-tried.ensures (c.published-published.ensures.value ∙ ap length c.history.ensures)))) (c.in-Ok.ensures.transition (stored_of c.args.self.now.persistent.parts) (has_stored (stored_of c.args.self.now.persistent.parts) c.last_round-tried.result c.published-published.result c.last_round-tried.ensures (c.published-published.ensures.value ∙ ap length c.history.ensures)) ∙ transition_propose c.args.self.now.persistent.parts c.args.self.now.proposer c.args.own) c.perform.ensures.change

pub returns-in-Err-clause-act : goal.returns-in-Err-clause-act
returns-in-Err-clause-act g c =
    act_proposer_rejects g.T.Tape _ (Propose c.args.own) c.in-Err.step_rejection c.fault_of.result c.args.self.now.journal c.args.self.now.persistent.parts c.args.self.now.proposer c.fault_of.ensures
    (c.in-Err.ensures.refused (stored_of c.args.self.now.persistent.parts) (has_stored (stored_of c.args.self.now.persistent.parts) c.last_round-tried.result c.published-published.result c.last_round-tried.ensures (c.published-published.ensures.value ∙ ap length c.history.ensures)) ∙ sym (step_rejection_propose (stored_of c.args.self.now.persistent.parts) (volatile_of c.args.self.now.proposer) c.args.own)) c.requires.running
    (λ short. subst TakesMemory (transition_propose c.args.self.now.persistent.parts c.args.self.now.proposer c.args.own) (propose_takes c.args.self.now.proposer.node (stored_of c.args.self.now.persistent.parts) (volatile_of c.args.self.now.proposer) c.args.own))
