-- A leader's proposal, or a first attempt in a new round.
use Rattle.std.proofs.Common.{◌≡◌, ap}
use Rattle.wf_proposer.specs.Proposer.{Proposer}
use Rattle.wf_proposer.proofs.Begun.{first_answer, first_rejected, led_answer, led_rejected}
use Rattle.wf_proposer.proofs.proposer.Proposer.begin.Goals as goal

pub returns-in-Some-clause-refused : goal.returns-in-Some-clause-refused
returns-in-Some-clause-refused c stored has =
    led_rejected c.propose.result _ _ _ _ _ stored has c.slot_after-slot.ensures
    c.in-Some.ensures c.propose.ensures.refused

pub returns-in-Some-clause-transition : goal.returns-in-Some-clause-transition
returns-in-Some-clause-transition c stored has =
    led_answer c.propose.result c.in-Some.leadership.now c.args.self.now.volatile.leadership c.args.self.now.volatile.proposing _ _ _ _ _ stored has c.slot_after-slot.ensures
    c.in-Some.ensures c.propose.ensures.transition

pub returns-in-None-clause-refused : goal.returns-in-None-clause-refused
returns-in-None-clause-refused c stored has =
    first_rejected c.first.result _ _ _ _ stored has c.slot_after-slot.ensures
    c.in-None.ensures c.first.ensures.refused

pub returns-in-None-clause-transition : goal.returns-in-None-clause-transition
returns-in-None-clause-transition c stored has =
    let same : c.self.inside.node ≡ c.args.self.now.node = ap (λ (p : Proposer). p.node) c.self.view_is in
    first_answer c.first.result c.args.self.now.volatile.leadership c.args.self.now.volatile.proposing c.args.self.now.node _ _ _ _ stored has c.slot_after-slot.ensures c.in-None.ensures
    (rw same at c.first.ensures.transition)
