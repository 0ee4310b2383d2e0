use Rattle.std.proofs.Common.{refl}
use Rattle.wf_frame.specs.Row.{layout_of}
use Rattle.wf_codec.specs.FormatTheorems.{is_format}
use Rattle.wf_codec.proofs.theorem.longest_body.Goals as goal

pub returns : goal.returns
unfolding layout_of
returns c = record { within = is_format.within 2; reached = refl }
