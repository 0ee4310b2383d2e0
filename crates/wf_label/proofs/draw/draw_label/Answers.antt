use Rattle.std.proofs.Common.{◌≡◌, ℕ, ◌+◌, ◌<◌, length, pos, ◌∙◌, rules}
use Rattle.std.specs.Str.{chars}
use Rattle.std.proofs.lemmas.Iterator.{YieldsList-from_chars}
use Rattle.std.proofs.lemmas.Iterator.Consumers.{YieldsList-from_enumerate, YieldsList-turn, YieldsList-end}
use Rattle.std.proofs.lemmas.List.{length_push}
use Rattle.std.proofs.lemmas.List.FromFn.{length-enumerate_from}
use Rattle.wf_label.specs.Colored.{character_bits, is_in_bits}
use Rattle.wf_label.specs.Ink.{inks}
use Rattle.wf_label.specs.Placed.{placed_value}
use Rattle.wf_label.proofs.BitLemmas.{some_scale, numbered, text_so_far, text_bits, text_none, text_character, text_all, inks_in_bits, bits_none, bits_same, bits_next}
use Rattle.wf_label.proofs.ColoredLemmas.{IsColored-same}
use Rattle.wf_label.proofs.draw.draw_label.Goals as goal

pub loop-index-init : goal.loop-index-init
loop-index-init c =
    let p = c.args.pixmap.now in
    let text = chars c.args.label.now.text.now in
    bits_none (placed_value c.args.label.now) c.args.label.now.color p p p (text_so_far text 0) (text_none text)

pub loop-index-preserved : goal.loop-index-preserved
loop-index-preserved c =
    let text = chars c.args.label.now.text.now in
    let all = YieldsList-from_enumerate (YieldsList-from_chars c.args.label.now.text.now (search rules) cc) cc in
    let turn = YieldsList-turn all c.loop-index.yielded _ c.loop-index.yielded_by _ _ (c.in-Some.index, c.in-Some.character) c.in-Some.is c.next.ensures.steps in
    let n = length c.loop-index.yielded in
    let item = numbered text n c.in-Some.index c.in-Some.character turn.0 turn.1 in
    rw (length_push c.loop-index.yielded (c.in-Some.index, c.in-Some.character))
    (bits_next (placed_value c.args.label.now) c.args.label.now.color c.args.pixmap.now c.loop-index.pixmap c.draw_character.new.pixmap
    (text_so_far text n) (character_bits n c.in-Some.character) (text_so_far text (n + 1))
    (λ a b. text_character text n c.in-Some.character a b item.character_is) c.loop-index.invariant (rw item.index_is at c.draw_character.ensures))

pub returns : goal.returns
returns c =
    let label = placed_value c.args.label.now in
    let color = c.args.label.now.color in
    let p = c.args.pixmap.now in
    let text = chars c.args.label.now.text.now in
    let all = YieldsList-from_enumerate (YieldsList-from_chars c.args.label.now.text.now (search rules) cc) cc in
    let end = YieldsList-end all c.loop-index.yielded _ c.loop-index.yielded_by _ _ c.in-None.is c.next.ensures.steps in
    let whole : length c.loop-index.yielded ≡ length text = end.1 ∙ length-enumerate_from 0 text in
    let drawn = bits_same label color p c.loop-index.pixmap p (text_so_far text (length text)) (text_bits text) (text_all text) (rw whole at c.loop-index.invariant) in
    let same : (k m : ℕ) → k < p.width → m < p.height → inks label (pos k) (pos m) ≡ is_in_bits label (text_bits text) k m =
    λ k m wide high. inks_in_bits label k m (some_scale c.args.label.now.scale) in
    IsColored-same color p c.loop-index.pixmap p (is_in_bits label (text_bits text)) (λ k m. inks label (pos k) (pos m)) same drawn
