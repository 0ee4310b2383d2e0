use Rattle.wf_frame.specs.FrameTheorems.{frames_are_read}
use Rattle.wf_frame.proofs.theorem.frames_are_read.Goals as goal

pub returns : goal.returns
returns g c = frames_are_read g.F.FrameFormat.format g.met.F.FrameFormat.is_format
