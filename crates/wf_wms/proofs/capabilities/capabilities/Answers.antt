use Rattle.std.proofs.Common.{append_assoc}
use Rattle.wf_wms.specs.Capabilities.{capabilities}
use Rattle.wf_wms.proofs.capabilities.capabilities.Goals as goal

pub returns : goal.returns
unfolding capabilities
returns c =
    rw (c.in_ok-write_text-2.ensures, c.in_ok-write_layers.ensures, c.in_ok-write_requests.ensures, c.in_ok-write_text.ensures, c.in_ok-write_service.ensures, c.in_ok-write_opening.ensures, c.new-document.ensures.items)
    (simp (append_assoc))
