use Rattle.std.proofs.Common.{append_assoc}
use Rattle.wf_wms.specs.Capabilities.{online_resource}
use Rattle.wf_wms.proofs.capabilities.write_online_resource.Goals as goal

pub returns : goal.returns
unfolding online_resource
returns c =
    rw (c.in_ok-write_text-2.ensures, c.in_ok-write_escaped.ensures, c.in_ok-write_text.ensures)
    (simp (append_assoc, c.as_bytes.ensures.value))
