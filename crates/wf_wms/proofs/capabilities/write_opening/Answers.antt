use Rattle.std.proofs.Common.{append_assoc}
use Rattle.wf_wms.specs.Capabilities.{opening}
use Rattle.wf_wms.proofs.capabilities.write_opening.Goals as goal

pub returns : goal.returns
unfolding opening
returns c =
    rw (c.in_ok-write_text-4.ensures, c.in_ok-write_text-3.ensures, c.in_ok-write_decimal.ensures, c.in_ok-write_text-2.ensures, c.in_ok-write_text.ensures)
    (simp (append_assoc, c.from.ensures))
