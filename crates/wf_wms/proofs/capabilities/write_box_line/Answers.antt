use Rattle.std.proofs.Common.{append_assoc}
use Rattle.wf_wms.specs.Capabilities.{box_line}
use Rattle.wf_wms.proofs.capabilities.write_box_line.Goals as goal

pub returns : goal.returns
unfolding box_line
returns c =
    rw (c.in_ok-write_text-4.ensures, c.in_ok-write_side-4.ensures, c.in_ok-write_side-3.ensures, c.in_ok-write_side-2.ensures, c.in_ok-write_side.ensures, c.in_ok-write_text-3.ensures, c.in_ok-write_text-2.ensures, c.in_ok-write_text.ensures)
    (simp (append_assoc))
