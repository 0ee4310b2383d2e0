-- By cases: the slot compared with the next one.
use Rattle.std.proofs.Common.{◌+◌, ◌<◌, ◌≤◌, [], ◌∷◌, length, sym, subst, ap, ◌∙◌, arith}
use Rattle.std.proofs.lemmas.Bool.{false≢true}
use Rattle.wf_ballot.specs.Sequence.{last_sequence}
use Rattle.wf_def.specs.Equality.{definition_eq}
use Rattle.wf_model.specs.Message as model
use Rattle.wf_model.specs.Message.{Ask}
use Rattle.wf_model.specs.Table.{Deliver, on_chosen}
use Rattle.wf_proposer.specs.Proposer.{volatile_of}
use Rattle.wf_node.specs.Parts.{stored_of}
use Rattle.wf_node.proofs.Acts.{act_done, act_only_sends, delivered, transition_chosen}
use Rattle.wf_node.proofs.Transitions.{below_else, chosen_known, chosen_later, within_all}
use Rattle.wf_node.proofs.machine.Machine.on_chosen.Goals as goal

pub returns-in_default-clause-act : goal.returns-in_default-clause-act
returns-in_default-clause-act g c =
    act_only_sends g.T.Tape (Deliver (model.Chosen c.args.slot c.args.canon)) [] c.args.self.now.journal c.args.self.now.persistent.parts c.args.self.now.proposer c.reply.result (delivered _ _ _) c.requires.running
    (sym (transition_chosen c.args.self.now.persistent.parts c.args.self.now.proposer c.args.slot c.args.canon) ∙ chosen_known (stored_of c.args.self.now.persistent.parts) (volatile_of c.args.self.now.proposer) c.args.slot c.args.canon
    (within_all c.args.slot (length c.args.self.now.persistent.parts.history)
    (subst (λ n. n ≤ last_sequence) c.number-number.ensures.value c.number-number.ensures.in_range.to_last)
    (λ below. false≢true (c.in_default.ensures.open.1 (subst (λ h. length h < last_sequence) (sym c.history.ensures) below)))))
    c.reply.ensures

pub returns-then-number-clause-act : goal.returns-then-number-clause-act
returns-then-number-clause-act g c =
    act_done g.T.Tape (Deliver (model.Chosen c.args.slot c.args.canon)) (on_chosen definition_eq (stored_of c.args.self.now.persistent.parts) (volatile_of c.args.self.now.proposer) c.args.slot c.args.canon) c.args.self.now.journal c.publish.new.self.journal c.args.self.now.persistent.parts c.publish.new.self.persistent.parts c.args.self.now.proposer c.publish.new.self.proposer c.publish.result
    (delivered _ _ _) (transition_chosen c.args.self.now.persistent.parts c.args.self.now.proposer c.args.slot c.args.canon) c.publish.ensures.change

pub returns-then-number-2-clause-act : goal.returns-then-number-2-clause-act
returns-then-number-2-clause-act g c =
    act_only_sends g.T.Tape (Deliver (model.Chosen c.args.slot c.args.canon)) (Ask c.in-Some.next ∷ []) c.args.self.now.journal c.args.self.now.persistent.parts c.args.self.now.proposer c.reply-then-number-2.result (delivered _ _ _) c.requires.running
    (sym (transition_chosen c.args.self.now.persistent.parts c.args.self.now.proposer c.args.slot c.args.canon) ∙ chosen_later (stored_of c.args.self.now.persistent.parts) (volatile_of c.args.self.now.proposer) c.args.slot c.in-Some.next c.args.canon
    (c.in-Some.ensures.value ∙ ap (λ h. length h + 1) c.history.ensures)
    (omega (arith, c.if-number-2.true, c.number-2.ensures.value, c.number-number.ensures.value)))
    c.reply-then-number-2.ensures

pub returns-else-number-2-clause-act : goal.returns-else-number-2-clause-act
returns-else-number-2-clause-act g c =
    let below =
    below_else c.number-number.result c.in-Some.next (λ e. c.if-number.false (e ∙ sym c.number.ensures.value))
    (omega (arith, c.if-number-2.false, c.number-2.ensures.value)) in
    let next = c.in-Some.ensures.value ∙ ap (λ h. length h + 1) c.history.ensures in
    act_only_sends g.T.Tape (Deliver (model.Chosen c.args.slot c.args.canon)) [] c.args.self.now.journal c.args.self.now.persistent.parts c.args.self.now.proposer c.reply-else-number-2.result (delivered _ _ _) c.requires.running
    (sym (transition_chosen c.args.self.now.persistent.parts c.args.self.now.proposer c.args.slot c.args.canon) ∙ chosen_known (stored_of c.args.self.now.persistent.parts) (volatile_of c.args.self.now.proposer) c.args.slot c.args.canon
    (omega (arith, below, next, c.number-number.ensures.value)))
    c.reply-else-number-2.ensures
