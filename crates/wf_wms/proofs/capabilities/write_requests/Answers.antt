use Rattle.std.proofs.Common.{append_assoc}
use Rattle.wf_wms.specs.Capabilities.{requests}
use Rattle.wf_wms.proofs.capabilities.write_requests.Goals as goal

pub returns : goal.returns
unfolding requests
returns c =
    rw (c.in_ok-write_text-2.ensures, c.in_ok-write_operation-2.ensures, c.in_ok-write_operation.ensures, c.in_ok-write_text.ensures)
    (simp (append_assoc, c.address.ensures.value, c.address-2.ensures.value))
