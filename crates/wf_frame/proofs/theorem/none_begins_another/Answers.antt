use Rattle.wf_frame.specs.FrameTheorems.{none_begins_another}
use Rattle.wf_frame.proofs.theorem.none_begins_another.Goals as goal

pub returns : goal.returns
returns g c = none_begins_another g.F.FrameFormat.format g.met.F.FrameFormat.is_format
