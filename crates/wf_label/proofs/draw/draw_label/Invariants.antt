use Rattle.std.proofs.Common.{length}
use Rattle.std.specs.Str.{chars}
use Rattle.wf_label.specs.Colored.{IsPixmapColored, is_in_bits}
use Rattle.wf_label.specs.Placed.{placed_value}
use Rattle.wf_label.proofs.BitLemmas.{text_so_far}
use Rattle.wf_label.proofs.draw.draw_label.Given as goal

-- the characters so far are drawn
abbrev pub invariant-loop-index : goal.invariant-loop-index
invariant-loop-index l = IsPixmapColored (is_in_bits (placed_value l.label) (text_so_far (chars l.label.text.now) (length l.yielded))) l.label.color l.initial.pixmap l.pixmap
