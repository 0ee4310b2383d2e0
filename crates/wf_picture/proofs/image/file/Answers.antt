use Rattle.std.proofs.Common.{◌++◌, List, ℕ, ap, ◌∙◌}
use Rattle.wf_picture.proofs.PictureLemmas.{ok_gives}
use Rattle.wf_picture.proofs.WholeLemmas.{file_written}
use Rattle.wf_picture.proofs.image.file.Goals as goal

pub returns : goal.returns
returns c =
    let pixmap = c.args.pixmap in
    ok_gives c.into_file.result
    (λ file joined whole shows.
    file_written pixmap whole c.in_ok-head.head.items c.push_header.new.file.items file.items c.width-width.result c.height-height.result c.width-width.ensures.within shows
    c.in_ok-head.ensures.items c.in_ok-push_header.ensures c.width-width.ensures.value c.height-height.ensures.value
    (joined ∙ ap (λ (front : List ℕ). front ++ pixmap.bytes) c.deref.ensures.value))
    c.into_file.ensures
