use Rattle.std.proofs.Common.{◌≡◌}
use Rattle.wf_paint.specs.Pixmap.{PixmapValue}
use Rattle.wf_paint.proofs.PixelLemmas.{pixel_set}
use Rattle.wf_paint.proofs.pixmap.Pixmap.set.Goals as goal

pub returns : goal.returns
returns c =
    let here : PixmapValue = record { width = c.self.inside.width; height = c.self.inside.height; bytes = c.self.inside.pixels } in
    let same : c.args.self.now ≡ here = cc in
    rw same (pixel_set here c.args.index c.args.color c.write.new.self c.write.ensures)
