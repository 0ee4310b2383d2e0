-- A process whose folder joins has only learned in the run that ended too.
use Rattle.wf_node_command.proofs.Learned.{learner_reopened}
use Rattle.wf_node_command.proofs.running_node.reopen_if_due.Goals as goal

pub returns-then-is_reopening_due-clause-learns : goal.returns-then-is_reopening_due-clause-learns
returns-then-is_reopening_due-clause-learns g c =
    learner_reopened g.T.Tape c.args.event_loop.now c.reopen.new.self c.reopen.result c.reopen.ensures.joins c.reopen.ensures.begun c.reopen.ensures.ended c.reopen.ensures.same
