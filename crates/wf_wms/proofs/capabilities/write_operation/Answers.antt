use Rattle.std.proofs.Common.{append_assoc}
use Rattle.wf_wms.specs.Capabilities.{operation}
use Rattle.wf_wms.proofs.capabilities.write_operation.Goals as goal

pub returns : goal.returns
unfolding operation
returns c =
    rw (c.in_ok-write_text-5.ensures, c.in_ok-write_end_tag.ensures, c.in_ok-write_text-4.ensures, c.in_ok-write_online_resource.ensures, c.in_ok-write_text-3.ensures, c.in_ok-write_text-2.ensures, c.in_ok-write_text.ensures, c.in_ok-write_start_tag.ensures)
    (simp (append_assoc))
