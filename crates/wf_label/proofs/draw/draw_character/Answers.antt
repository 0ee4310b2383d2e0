use Rattle.std.proofs.Common.{◌≡◌, ℕ, ◌+◌, List, ap, ◌∙◌, arith}
use Rattle.wf_label.specs.Colored.{character_bits, row_bits}
use Rattle.wf_label.specs.Ink.{row_up}
use Rattle.wf_label.specs.Limit.{cell_height}
use Rattle.wf_label.specs.Placed.{placed_value}
use Rattle.wf_label.proofs.BitLemmas.{character_so_far, character_none, character_row, character_all, bits_none, bits_same, bits_next}
use Rattle.wf_label.proofs.draw.draw_character.Goals as goal

pub loop-up-init : goal.loop-up-init
loop-up-init c =
    let p = c.args.pixmap.now in
    bits_none (placed_value c.args.label.now) c.args.label.now.color p p p (character_so_far c.args.index c.args.character 1) (character_none c.args.index c.args.character)

pub loop-up-preserved : goal.loop-up-preserved
loop-up-preserved c =
    let so_far = character_so_far c.args.index c.args.character in
    let up = c.loop-up.up in
    let row = c.row_up.ensures ∙ ap (λ (rows : List ℕ). row_up rows up) c.glyph-rows.ensures in
    bits_next (placed_value c.args.label.now) c.args.label.now.color c.args.pixmap.now c.loop-up.pixmap c.draw_row.new.pixmap (so_far up) (row_bits c.args.index up c.row_up.result) (so_far (up + 1))
    (λ a b. character_row c.args.index c.args.character up c.row_up.result a b row) c.loop-up.invariant c.draw_row.ensures

pub returns : goal.returns
returns c =
    let p = c.args.pixmap.now in
    let so_far = character_so_far c.args.index c.args.character in
    let end : c.loop-up.up ≡ cell_height = omega arith in
    bits_same (placed_value c.args.label.now) c.args.label.now.color p c.loop-up.pixmap p (so_far cell_height) (character_bits c.args.index c.args.character) (character_all c.args.index c.args.character)
    (rw end at c.loop-up.invariant)
