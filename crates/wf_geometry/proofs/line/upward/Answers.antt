use Rattle.std.proofs.Common.{pos, sym, ◌∙◌, arith}
use Rattle.wf_geometry.specs.Coverage.{is_across}
use Rattle.wf_geometry.specs.Position.{centre, turned}
use Rattle.wf_geometry.specs.Span.{is_within}
use Rattle.wf_geometry.proofs.LineLemmas.{across_level}
use Rattle.wf_geometry.proofs.SpanLemmas.{outside_none}
use Rattle.wf_geometry.proofs.StripLemmas.{strip_of_rows, margin_same}
use Rattle.wf_geometry.proofs.line.upward.Goals as goal

pub returns-clause-shown : goal.returns-clause-shown
returns-clause-shown c = λ u v wide high.
    let lower = c.args.line.from in
    let upper = c.args.line.to in
    let width = c.args.width in
    let levels = c.not_falling.result in
    let columns = c.rows_near.result in
    let rows = c.span_along.result in
    sym (strip_of_rows levels rows columns u v (is_across width (turned (centre (pos u) (pos v))) lower upper)
    (across_level width (turned (centre (pos u) (pos v))) lower upper (is_within rows v) _ _
    ((c.span_along.ensures u).passed v high) c.turned_deviations.ensures.margin (c.turned_deviations.ensures.value u v)
    ∙ margin_same (is_within rows v) c.turned_deviations.result levels u v c.not_falling.ensures.margin (c.not_falling.ensures.same u v))
    (outside_none columns u (λ x. is_across width (turned (centre (pos x) (pos v))) lower upper)
    (λ before. c.rows_near.ensures.below v u wide before)
    (λ after. c.rows_near.ensures.above v u wide after)))

pub returns-clause-rows : goal.returns-clause-rows
returns-clause-rows c = let rows = c.span_along.ensures 0 in omega (arith, rows.within)
