use Rattle.wf_label.specs.Colored.{IsPixmapColored, is_in_bits}
use Rattle.wf_label.specs.Placed.{placed_value}
use Rattle.wf_label.proofs.BitLemmas.{character_so_far}
use Rattle.wf_label.proofs.draw.draw_character.Given as goal

-- the rows so far are drawn
abbrev pub invariant-loop-up : goal.invariant-loop-up
invariant-loop-up l = IsPixmapColored (is_in_bits (placed_value l.label) (character_so_far l.index l.fn.character l.up)) l.label.color l.initial.pixmap l.pixmap
