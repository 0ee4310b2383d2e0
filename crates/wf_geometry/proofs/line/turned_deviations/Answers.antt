use Rattle.std.proofs.Common.{◌≡◌, pos, FitsSigned, w64, to_z-of_z, rules, ap, ◌∙◌}
use Rattle.std.specs.Int.{w128}
use Rattle.wf_geometry.specs.Level.{level_at, row_level}
use Rattle.wf_geometry.specs.Position.{PositionValue, centre, turned}
use Rattle.wf_geometry.specs.Coverage.{deviation}
use Rattle.wf_geometry.proofs.LineLemmas.{upward_levels}
use Rattle.wf_geometry.proofs.line.turned_deviations.Goals as goal

pub returns-clause-value : goal.returns-clause-value
unfolding level_at row_level
returns-clause-value c = λ u v.
    let origins : FitsSigned w128 c.deviation.result = search rules in
    let runs : FitsSigned w64 c.run.result = search rules in
    let rises : FitsSigned w64 c.rise.result = search rules in
    let origin : c.deviation.result ≡ deviation (turned (centre (pos 0) (pos 0))) c.args.low c.args.high =
    c.deviation.ensures.value ∙ ap (λ (p : PositionValue). deviation p c.args.low c.args.high) (c.exchange_axes.ensures ∙ ap (λ (p : PositionValue). turned p) c.centre.ensures) in
    rw (to_z-of_z origins, to_z-of_z runs, to_z-of_z rises, origin, c.rise.ensures.value, c.run.ensures.value) (upward_levels u v c.args.low c.args.high)
