-- The transition only sends, and allocation can fail only if it sends something.
use Rattle.std.proofs.Common.{Ok, Err, ◌≤◌, length, subst, ap, ◌∙◌}
use Rattle.wf_model.specs.Message as model
use Rattle.wf_model.specs.Table.{Deliver, reports_from, most_reports}
use Rattle.wf_node.specs.declared.fault.NodeFault.TheVariants.{Memory}
use Rattle.wf_node.proofs.Acts.{act_only_sends, delivered, transition_ask}
use Rattle.wf_node.proofs.Transitions.{ask_reported}
use Rattle.wf_node.proofs.machine.Machine.on_ask.Goals as goal

pub returns-in-Ok-clause-act : goal.returns-in-Ok-clause-act
returns-in-Ok-clause-act g c =
    act_only_sends g.T.Tape (Deliver (model.Ask c.args.slot)) (reports_from c.args.self.now.persistent.parts.history c.args.slot most_reports) c.args.self.now.journal c.args.self.now.persistent.parts c.args.self.now.proposer (Ok c.in-Ok.messages)
    (delivered _ _ _) c.requires.running (transition_ask c.args.self.now.persistent.parts c.args.self.now.proposer c.args.slot)
    (c.in-Ok.ensures.transition ∙ ap (λ h. reports_from h c.args.slot most_reports) c.history.ensures)

pub returns-in-Err-clause-act : goal.returns-in-Err-clause-act
returns-in-Err-clause-act g c =
    act_only_sends g.T.Tape (Deliver (model.Ask c.args.slot)) (reports_from c.args.self.now.persistent.parts.history c.args.slot most_reports) c.args.self.now.journal c.args.self.now.persistent.parts c.args.self.now.proposer (Err Memory)
    (delivered _ _ _) c.requires.running (transition_ask c.args.self.now.persistent.parts c.args.self.now.proposer c.args.slot)
    (ask_reported c.args.self.now.persistent.parts.history c.args.slot c.counts_from_one.ensures
    (subst (λ h. c.args.slot ≤ length h) c.history.ensures c.in-Err.ensures.memory))
