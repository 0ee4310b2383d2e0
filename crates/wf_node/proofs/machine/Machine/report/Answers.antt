-- Allocation can fail only if there is something to send.
use Rattle.std.proofs.Common.{◌≤◌, length, subst}
use Rattle.wf_node.proofs.Transitions.{reported_something}
use Rattle.wf_node.proofs.machine.Machine.report.Goals as goal

pub returns-in-Err : goal.returns-in-Err
returns-in-Err g c =
    reported_something c.args.self.now.persistent.parts.history c.args.slot c.counts_from_one.ensures
    (subst (λ h. c.args.slot ≤ length h) c.history.ensures c.in-Err.ensures.memory)
