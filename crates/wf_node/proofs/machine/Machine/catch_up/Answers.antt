-- The next sequence is asked for, if there is one.
use Rattle.std.proofs.Common.{◌+◌, ◌<◌, [], ◌∷◌, length, refl, sym, subst, ap, ◌∙◌}
use Rattle.std.proofs.lemmas.Bool.{false≢true}
use Rattle.wf_ballot.specs.Sequence.{last_sequence}
use Rattle.wf_model.specs.Message.{Ask}
use Rattle.wf_model.specs.Table.{CatchUp}
use Rattle.wf_node.specs.Parts.{stored_of}
use Rattle.wf_proposer.specs.Proposer.{volatile_of}
use Rattle.wf_node.proofs.Acts.{act_only_sends, catch_up_unrefused, transition_catch_up}
use Rattle.wf_node.proofs.Transitions.{catch_up_asks, catch_up_rests}
use Rattle.wf_node.proofs.machine.Machine.catch_up.Goals as goal

pub returns-in-Some-clause-act : goal.returns-in-Some-clause-act
returns-in-Some-clause-act g c =
    act_only_sends g.T.Tape CatchUp (Ask c.in-Some.slot ∷ []) c.args.self.now.journal c.args.self.now.persistent.parts c.args.self.now.proposer c.reply.result
    (catch_up_unrefused _ _) c.requires.running
    (transition_catch_up c.args.self.now.persistent.parts c.args.self.now.proposer ∙ catch_up_asks (stored_of c.args.self.now.persistent.parts) (volatile_of c.args.self.now.proposer) c.in-Some.slot
    (subst (λ h. length h < last_sequence) c.history.ensures (c.in-Some.ensures.open.0 refl))
    (c.in-Some.ensures.value ∙ ap (λ h. length h + 1) c.history.ensures))
    c.reply.ensures

pub returns-in-None-clause-act : goal.returns-in-None-clause-act
returns-in-None-clause-act g c =
    act_only_sends g.T.Tape CatchUp [] c.args.self.now.journal c.args.self.now.persistent.parts c.args.self.now.proposer c.reply-in-None.result
    (catch_up_unrefused _ _) c.requires.running
    (transition_catch_up c.args.self.now.persistent.parts c.args.self.now.proposer ∙ catch_up_rests (stored_of c.args.self.now.persistent.parts) (volatile_of c.args.self.now.proposer)
    (λ below. false≢true (c.in-None.ensures.open.1 (subst (λ h. length h < last_sequence) (sym c.history.ensures) below))))
    c.reply-in-None.ensures
