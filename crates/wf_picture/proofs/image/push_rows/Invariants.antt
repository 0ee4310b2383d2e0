use Rattle.std.proofs.Common.{◌≡◌, ◌-◌, ◌++◌, reverse, ℤ}
use Rattle.std.specs.List.{flat_map, range_with_len}
use Rattle.wf_def.specs.declared.color.Color.{Color}
use Rattle.wf_paint.specs.Pixmap.{IsPicture}
use Rattle.wf_picture.specs.Image.{row_bytes}
use Rattle.wf_picture.specs.Picture.{crop}
use Rattle.wf_picture.proofs.image.push_rows.Given as goal

-- the rows from the top down to the one that was written last
abbrev pub invariant-loop-row : goal.invariant-loop-row
invariant-loop-row l = (whole : ℤ → ℤ → Color) → IsPicture l.pixmap.width l.pixmap.height whole l.pixmap →
    l.file.items ≡ l.initial.file.items ++ flat_map (row_bytes l.width (crop l.corner whole)) (reverse (range_with_len l.row (l.height - l.row)))
