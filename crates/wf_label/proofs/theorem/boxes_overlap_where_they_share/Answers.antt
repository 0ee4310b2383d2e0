use Rattle.wf_label.proofs.OverlapLemmas.{overlap_is_sharing}
use Rattle.wf_label.proofs.theorem.boxes_overlap_where_they_share.Goals as goal

pub returns : goal.returns
returns c = overlap_is_sharing
