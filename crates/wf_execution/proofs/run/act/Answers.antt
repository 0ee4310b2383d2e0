-- What the step promises is one of the things that a node does with an input; so it is an act.
use Rattle.wf_execution.proofs.NodeActs.{step_takes}
use Rattle.wf_execution.proofs.run.act.Goals as goal

pub returns-clause-takes : goal.returns-clause-takes
returns-clause-takes g c =
    step_takes g.T.Tape c.args.node.now c.step.new.self c.args.input c.step.result c.step.ensures.halted c.step.ensures.running c.step.ensures.refused c.step.ensures.transition
    c.step.ensures.on_tape c.step.ensures.content c.step.ensures.unchanged c.step.ensures.same c.step.ensures.memory c.step.ensures.same_tape c.step.ensures.takes c.step.ensures.failed c.step.ensures.writes
    c.step.ensures.halts c.step.ensures.kept c.step.ensures.part c.step.ensures.torn

pub returns-clause-act : goal.returns-clause-act
returns-clause-act g c = record { lost = _; takes = returns-clause-takes g c }
