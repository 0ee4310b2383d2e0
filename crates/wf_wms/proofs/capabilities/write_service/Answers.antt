use Rattle.std.proofs.Common.{append_assoc}
use Rattle.wf_wms.specs.Capabilities.{service}
use Rattle.wf_wms.proofs.capabilities.write_service.Goals as goal

pub returns : goal.returns
unfolding service
returns c =
    rw (c.in_ok-write_text-5.ensures, c.in_ok-write_limit-3.ensures, c.in_ok-write_limit-2.ensures, c.in_ok-write_limit.ensures, c.in_ok-write_text-4.ensures, c.in_ok-write_online_resource.ensures, c.in_ok-write_text-3.ensures, c.in_ok-write_element-2.ensures, c.in_ok-write_text-2.ensures, c.in_ok-write_element.ensures, c.in_ok-write_text.ensures)
    (simp (append_assoc, c.title.ensures.value, c.abstract_text.ensures.value, c.address.ensures.value))
