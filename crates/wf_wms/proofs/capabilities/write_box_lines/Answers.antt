use Rattle.std.proofs.Common.{append_assoc}
use Rattle.wf_wms.specs.Capabilities.{box_lines}
use Rattle.wf_wms.proofs.capabilities.write_box_lines.Goals as goal

pub returns-in_ok-write_box_line-in-Epsg4326-2 : goal.returns-in_ok-write_box_line-in-Epsg4326-2
unfolding box_lines
returns-in_ok-write_box_line-in-Epsg4326-2 c =
    rw (c.in-Epsg4326.is, c.in_ok-write_box_line-in-Epsg4326-2.ensures, c.in_ok-write_box_line-in-Epsg4326.ensures)
    (simp (append_assoc, c.minx-minx.ensures.value, c.miny-miny.ensures.value, c.maxx-maxx.ensures.value, c.maxy-maxy.ensures.value))

pub returns-in_ok-write_box_line-in-Epsg3857 : goal.returns-in_ok-write_box_line-in-Epsg3857
unfolding box_lines
returns-in_ok-write_box_line-in-Epsg3857 c =
    rw (c.in-Epsg3857.is, c.in_ok-write_box_line-in-Epsg3857.ensures)
    (simp (append_assoc, c.minx-minx.ensures.value, c.miny-miny.ensures.value, c.maxx-maxx.ensures.value, c.maxy-maxy.ensures.value))
