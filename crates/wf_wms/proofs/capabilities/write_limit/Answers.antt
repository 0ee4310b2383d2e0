use Rattle.std.proofs.Common.{append_assoc}
use Rattle.wf_wms.specs.Capabilities.{limit}
use Rattle.wf_wms.proofs.capabilities.write_limit.Goals as goal

pub returns : goal.returns
unfolding limit
returns c =
    rw (c.in_ok-write_text.ensures, c.in_ok-write_end_tag.ensures, c.in_ok-write_decimal.ensures, c.in_ok-write_start_tag.ensures)
    (simp (append_assoc))
