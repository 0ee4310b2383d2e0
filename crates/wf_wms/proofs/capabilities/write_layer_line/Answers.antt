use Rattle.std.proofs.Common.{append_assoc}
use Rattle.wf_wms.specs.Capabilities.{layer_line}
use Rattle.wf_wms.proofs.capabilities.write_layer_line.Goals as goal

pub returns : goal.returns
unfolding layer_line
returns c =
    rw (c.in_ok-write_text-2.ensures, c.in_ok-write_element-2.ensures, c.in_ok-write_element.ensures, c.in_ok-write_text.ensures)
    (simp (append_assoc, c.title.ensures.value))
