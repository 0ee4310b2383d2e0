use Rattle.std.proofs.Common.{◌≡◌, ◌+◌, ◌*◌, arith, sym, ◌∙◌}
use Rattle.wf_label.specs.Colored.{row_bits, one_bit}
use Rattle.wf_label.specs.Limit.{cell_width, glyph_width}
use Rattle.wf_label.specs.Placed.{placed_value}
use Rattle.wf_label.proofs.BitLemmas.{row_so_far, row_none, row_bit, row_gap, row_all, bits_none, bits_same, bits_next}
use Rattle.wf_label.proofs.draw.draw_row.Goals as goal
use Rattle.wf_label.proofs.draw.draw_row.Goals.{then-has_bit, else-has_bit}

pub loop-column-init : goal.loop-column-init
loop-column-init c =
    let p = c.args.pixmap.now in
    bits_none (placed_value c.args.label.now) c.args.label.now.color p p p (row_so_far c.args.index c.args.up c.args.row 0) (row_none c.args.index c.args.up c.args.row)

pub loop-column-preserved : goal.loop-column-preserved
loop-column-preserved c =
    let label = placed_value c.args.label.now in
    let color = c.args.label.now.color in
    let p = c.args.pixmap.now in
    let so_far = row_so_far c.args.index c.args.up c.args.row in
    let column = c.loop-column.column in
    elim c.if-has_bit.branch [
      | then-has_bit w ↦ rw w.pixmap-is
          (bits_next label color p c.loop-column.pixmap w.draw_bit.new.pixmap (so_far column) (one_bit (cell_width * c.args.index + column) c.args.up) (so_far (column + 1))
          (λ a b. row_bit c.args.index c.args.up c.args.row column a b (omega arith) (sym c.has_bit.ensures ∙ w.if-has_bit.true)) c.loop-column.invariant (rw w.from.ensures at w.draw_bit.ensures))
      | else-has_bit w ↦ rw w.pixmap-is
          (bits_same label color p c.loop-column.pixmap p (so_far column) (so_far (column + 1)) (λ a b. row_gap c.args.index c.args.up c.args.row column a b (sym c.has_bit.ensures ∙ w.if-has_bit.false)) c.loop-column.invariant)
    ]

pub returns : goal.returns
returns c =
    let p = c.args.pixmap.now in
    let so_far = row_so_far c.args.index c.args.up c.args.row in
    let end : c.loop-column.column ≡ glyph_width = omega arith in
    bits_same (placed_value c.args.label.now) c.args.label.now.color p c.loop-column.pixmap p (so_far glyph_width) (row_bits c.args.index c.args.up c.args.row) (row_all c.args.index c.args.up c.args.row)
    (rw end at c.loop-column.invariant)
