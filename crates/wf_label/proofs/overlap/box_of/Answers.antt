use Rattle.std.proofs.Common.{◌≡◌, ◌<◌, pos, to_z, of_z, rules}
use Rattle.std.specs.Int.{w128}
use Rattle.wf_geometry.specs.Exact.{plus}
use Rattle.wf_label.proofs.BitLemmas.{some_scale}
use Rattle.wf_label.proofs.MeaningLemmas.{chars_some, further, height_some, width_some}
use Rattle.wf_label.proofs.overlap.box_of.Goals as goal

pub returns-clause-solid : goal.returns-clause-solid
returns-clause-solid c = λ some.
    let label = c.args.label.now in
    let scale = some_scale label.scale in
    let left : to_z w128 (of_z w128 c.from-left.result) ≡ c.from-left.result = search rules in
    let right : to_z w128 (of_z w128 c.plus.result) ≡ c.plus.result = search rules in
    let bottom : to_z w128 (of_z w128 c.from-bottom.result) ≡ c.from-bottom.result = search rules in
    let top : to_z w128 (of_z w128 c.plus-2.result) ≡ c.plus-2.result = search rules in
    let wide : 0 < c.text_width.result = rw c.text_width.ensures.value (width_some _ label.text.now scale (chars_some label.text.now (search rules) some)) in
    let high : 0 < c.from.result = rw (c.from.ensures, c.text_height.ensures) (height_some _ scale) in
    let right_is : c.plus.result ≡ plus c.from-left.result (pos c.text_width.result) = search rules in
    let top_is : c.plus-2.result ≡ plus c.from-bottom.result (pos c.from.result) = search rules in
    record {
      wide = rw (left, right, right_is) (further c.from-left.result c.text_width.result wide);
      high = rw (bottom, top, top_is) (further c.from-bottom.result c.from.result high);
    }
