use Rattle.std.proofs.Common.{append_assoc}
use Rattle.wf_wms.specs.Capabilities.{layers, world}
use Rattle.wf_wms.proofs.capabilities.write_layers.Goals as goal

pub returns : goal.returns
unfolding layers world
returns c =
    rw (c.in_ok-write_text-5.ensures, c.in_ok-write_layer_lines.ensures, c.in_ok-write_box_lines.ensures, c.in_ok-write_text-4.ensures, c.in_ok-write_text-3.ensures, c.in_ok-write_text-2.ensures, c.in_ok-write_element.ensures, c.in_ok-write_text.ensures)
    (simp (append_assoc, c.title.ensures.value, c.projection.ensures.value, c.projection-2.ensures.value, c.extent.ensures.value, c.crs_lines.ensures))
