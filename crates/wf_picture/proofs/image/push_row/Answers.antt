use Rattle.std.proofs.Common.{◌++◌, List, ℕ, ap, ◌∙◌, arith}
use Rattle.wf_picture.proofs.ImageLemmas.{inside, row_shown}
use Rattle.wf_picture.proofs.image.push_row.Goals as goal

pub pixels_from-requires : goal.pixels_from-requires
pixels_from-requires c =
    let fits = inside c.args.pixmap.now c.args.corner c.args.width c.args.row c.requires.columns c.requires.row c.args.width (omega arith) in
    omega (arith, fits, c.first_of-first.ensures)

pub returns : goal.returns
returns c whole shows =
    let shown = row_shown c.args.pixmap.now c.args.corner c.args.width c.args.row c.requires.columns c.requires.row whole shows c.pixels_from.ensures.within in
    let pixels = c.pixels_from.ensures.value in
    let first = c.first_of-first.ensures in
    c.in_ok-extend_from_slice.ensures.items ∙ ap (λ (bytes : List ℕ). c.args.file.now.items ++ bytes) (rw first at pixels ∙ shown)
