use Rattle.std.proofs.Common.{arith}
use Rattle.wf_picture.specs.Image.{row_bytes}
use Rattle.wf_picture.specs.Picture.{crop}
use Rattle.wf_picture.proofs.ImageLemmas.{row_written}
use Rattle.wf_picture.proofs.image.push_rows.Goals as goal

pub loop-row-preserved : goal.loop-row-preserved
loop-row-preserved c whole shows =
    row_written (row_bytes c.args.width (crop c.args.corner whole)) c.loop-row.row c.args.height c.args.file.now.items c.loop-row.file.items _ (omega arith) (omega arith)
    (c.loop-row.invariant whole shows) (c.in_ok-push_row.ensures whole shows)
