use Rattle.wf_picture.proofs.PictureLemmas.{ok_gives, image_drawn}
use Rattle.wf_picture.proofs.picture.cut.Goals as goal

pub image-requires-clause-columns : goal.image-requires-clause-columns
image-requires-clause-columns c = rw (c.corner_of.ensures, c.requires.wide) c.requires.within.columns

pub image-requires-clause-rows : goal.image-requires-clause-rows
image-requires-clause-rows c = rw (c.corner_of.ensures, c.requires.high) c.requires.within.rows

pub returns : goal.returns
returns c = ok_gives c.image.result
    (λ file written map request sized is shows.
    image_drawn map request c.args.size c.args.view.now c.args.pixmap.now c.corner_of.result file.items sized is shows c.corner_of.ensures written)
    c.image.ensures
