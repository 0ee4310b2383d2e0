use Rattle.std.proofs.Common.{◌≡◌, true, false, ℕ, ◌<◌, ◌*◌, pos, nat_lt, FitsSigned, w64, to_z-of_z, sym, ap, ◌∙◌, rules}
use Rattle.std.proofs.lemmas.Bool.{lt-ltb, le-ltb}
use Rattle.wf_geometry.specs.Exact.{plus, difference, is_less}
use Rattle.wf_geometry.specs.Position.{middle, centre}
use Rattle.wf_geometry.specs.Limit.{half_side}
use Rattle.wf_geometry.proofs.BandLemmas.{beyond_below, beyond_above, less_lowered, less_raised}
use Rattle.wf_geometry.proofs.line.rows_near.Goals as goal

pub returns-clause-below : goal.returns-clause-below
returns-clause-below c = λ u v within before.
    let y : FitsSigned w64 c.y.result = search rules in
    let y-2 : FitsSigned w64 c.y-2.result = search rules in
    let least : FitsSigned w64 c.lesser.result = search rules in
    let bottom : FitsSigned w64 c.lower_border-bottom.result = search rules in
    let border : c.lower_border-bottom.result ≡ difference c.lesser.result (pos (half_side * c.args.width)) = simp to_z-of_z at c.lower_border-bottom.ensures in
    let counted : (u : ℕ) → u < c.args.most → is_less (middle (pos u)) c.lower_border-bottom.result ≡ nat_lt u c.centres_below.result = simp to_z-of_z at c.centres_below.ensures.below in
    let left : is_less c.y.result c.lesser.result ≡ false = simp to_z-of_z at c.lesser.ensures.first in
    let right : is_less c.y-2.result c.lesser.result ≡ false = simp to_z-of_z at c.lesser.ensures.second in
    let under : is_less (middle (pos v)) (difference c.lesser.result (pos (half_side * c.args.width))) ≡ true =
    ap (is_less (middle (pos v))) (sym border) ∙ counted v within ∙ lt-ltb v c.centres_below.result before in
    beyond_below c.args.width (centre (pos u) (pos v)) c.args.left c.args.right
    (less_lowered (middle (pos v)) c.lesser.result (pos (half_side * c.args.width)) c.args.left.y under (rw c.y.ensures.value at left))
    (less_lowered (middle (pos v)) c.lesser.result (pos (half_side * c.args.width)) c.args.right.y under (rw c.y-2.ensures.value at right))

pub returns-clause-above : goal.returns-clause-above
returns-clause-above c = λ u v within after.
    let y : FitsSigned w64 c.y-3.result = search rules in
    let y-2 : FitsSigned w64 c.y-4.result = search rules in
    let most : FitsSigned w64 c.greater.result = search rules in
    let top : FitsSigned w64 c.upper_border-top.result = search rules in
    let border : c.upper_border-top.result ≡ plus c.greater.result (pos (half_side * c.args.width)) = simp to_z-of_z at c.upper_border-top.ensures in
    let counted : (u : ℕ) → u < c.args.most → is_less (middle (pos u)) c.upper_border-top.result ≡ nat_lt u c.centres_below-2.result = simp to_z-of_z at c.centres_below-2.ensures.below in
    let left : is_less c.greater.result c.y-3.result ≡ false = simp to_z-of_z at c.greater.ensures.first in
    let right : is_less c.greater.result c.y-4.result ≡ false = simp to_z-of_z at c.greater.ensures.second in
    let over : is_less (middle (pos v)) (plus c.greater.result (pos (half_side * c.args.width))) ≡ false =
    ap (is_less (middle (pos v))) (sym border) ∙ counted v within ∙ le-ltb v c.centres_below-2.result after in
    beyond_above c.args.width (centre (pos u) (pos v)) c.args.left c.args.right
    (less_raised (middle (pos v)) c.greater.result (pos (half_side * c.args.width)) c.args.left.y over (rw c.y-3.ensures.value at left))
    (less_raised (middle (pos v)) c.greater.result (pos (half_side * c.args.width)) c.args.right.y over (rw c.y-4.ensures.value at right))
