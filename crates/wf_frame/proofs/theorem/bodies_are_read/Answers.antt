use Rattle.wf_frame.specs.FrameTheorems.{bodies_are_read}
use Rattle.wf_frame.proofs.theorem.bodies_are_read.Goals as goal

pub returns : goal.returns
returns c = bodies_are_read
