-- A leader needs no round.
use Rattle.wf_proposer.proofs.Begun.{first_why, led_allowed}
use Rattle.wf_proposer.proofs.proposer.Proposer.begin_step_rejection.Goals as goal

pub returns-in-Some : goal.returns-in-Some
returns-in-Some c stored has =
    led_allowed _ _ _ _ _ stored has c.slot_after.ensures
    c.in-Some.ensures

pub returns-in-None : goal.returns-in-None
returns-in-None c stored has =
    first_why _ _ _ _ _ stored has c.slot_after.ensures
    c.in-None.ensures c.rounds_step_rejection.ensures
