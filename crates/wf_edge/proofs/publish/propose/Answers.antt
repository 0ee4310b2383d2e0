-- The node's own promises are those of the step Propose.
use Rattle.wf_model.specs.Table.{Propose}
use Rattle.wf_edge.specs.StepResultTheorems.{answered}
use Rattle.wf_edge.proofs.publish.propose.Goals as goal

pub returns : goal.returns
returns g c =
    answered g.T.Tape c.args.node.now c.step.new.self (Propose c.args.canon) c.step.result
    c.step.ensures.halted c.step.ensures.running c.step.ensures.refused c.step.ensures.transition c.step.ensures.on_tape c.step.ensures.content c.step.ensures.unchanged c.step.ensures.same
    c.step.ensures.memory c.step.ensures.same_tape c.step.ensures.takes c.step.ensures.failed c.step.ensures.writes c.step.ensures.halts c.step.ensures.kept c.step.ensures.part c.step.ensures.torn c.step.ensures.sturdy c.step.ensures.sound
