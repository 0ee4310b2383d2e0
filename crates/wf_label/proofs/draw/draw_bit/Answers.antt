use Rattle.std.proofs.Common.{◌≡◌, ℕ, ◌<◌}
use Rattle.wf_label.specs.Colored.{is_in, is_in_bits, one_bit}
use Rattle.wf_label.specs.Placed.{placed_value}
use Rattle.wf_label.proofs.BitLemmas.{some_scale, in_one_bit}
use Rattle.wf_label.proofs.ColoredLemmas.{IsColored-same}
use Rattle.wf_label.proofs.draw.draw_bit.Goals as goal

pub returns : goal.returns
returns c =
    let label = placed_value c.args.label.now in
    let p = c.args.pixmap.now in
    let bit = one_bit c.args.across c.args.up in
    let same : (k m : ℕ) → k < p.width → m < p.height → is_in_bits label bit k m ≡ is_in c.bit_box.result k m =
    λ k m wide high. rw c.bit_box.ensures (in_one_bit label c.args.across c.args.up k m (some_scale c.args.label.now.scale)) in
    IsColored-same c.args.label.now.color p c.fill.new.pixmap p (is_in c.bit_box.result) (is_in_bits label bit) same c.fill.ensures
