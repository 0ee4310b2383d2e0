use Rattle.std.proofs.Common.{◌&&◌, not, pos, FitsSigned, w64, to_z-of_z, rules}
use Rattle.wf_geometry.specs.Exact.{is_less}
use Rattle.wf_geometry.specs.Position.{middle}
use Rattle.wf_geometry.specs.Coverage.{is_along}
use Rattle.wf_geometry.specs.Span.{IsSpanOf}
use Rattle.wf_geometry.proofs.line.span_along.Goals as goal

pub returns : goal.returns
unfolding is_along
returns c = λ v.
    let left : FitsSigned w64 c.x.result = search rules in
    let right : FitsSigned w64 c.x-2.result = search rules in
    let span : IsSpanOf (λ u. not (is_less (middle (pos u)) c.x.result) && not (is_less c.x-2.result (middle (pos u)))) c.args.most c.centres_between.result = simp to_z-of_z at c.centres_between.ensures in
    rw (c.x.ensures.value, c.x-2.ensures.value) at span
