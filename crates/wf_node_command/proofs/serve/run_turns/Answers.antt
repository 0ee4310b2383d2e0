use Rattle.std.proofs.Common.{◌∙◌}
use Rattle.wf_node_command.proofs.Served.{over_still}
use Rattle.wf_node_command.proofs.serve.run_turns.Goals as goal

pub loop-preserved : goal.loop-preserved
loop-preserved g c = (
  λ past earlier. c.wait_and_run.ensures.earlier past (c.loop.invariant.0 past earlier),
  c.wait_and_run.ensures.membership ∙ c.loop.invariant.1,
  λ is. c.wait_and_run.ensures.learns (c.loop.invariant.2 is),
  λ is. over_still g.S.Tape.Tape c.args.node.now.event_loop c.loop.node.event_loop c.wait_and_run.new.self.event_loop c.is_over.result c.is_over.ensures c.if-is_over.false c.loop.invariant.3 is,
  c.wait_and_run.ensures.began ∙ c.loop.invariant.4,
  λ is. c.wait_and_run.ensures.heard (c.loop.invariant.5 is),
)
