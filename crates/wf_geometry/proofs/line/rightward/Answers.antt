use Rattle.std.proofs.Common.{pos, sym, ◌∙◌, arith}
use Rattle.wf_geometry.specs.Coverage.{is_across}
use Rattle.wf_geometry.specs.Position.{centre}
use Rattle.wf_geometry.specs.Span.{is_within}
use Rattle.wf_geometry.proofs.LineLemmas.{across_level}
use Rattle.wf_geometry.proofs.SpanLemmas.{outside_none}
use Rattle.wf_geometry.proofs.StripLemmas.{strip_of_columns, margin_same}
use Rattle.wf_geometry.proofs.line.rightward.Goals as goal

pub returns-clause-shown : goal.returns-clause-shown
returns-clause-shown c = λ u v wide high.
    let left = c.args.line.from in
    let right = c.args.line.to in
    let width = c.args.width in
    let levels = c.not_falling.result in
    let columns = c.span_along.result in
    let rows = c.rows_near.result in
    sym (strip_of_columns levels rows columns u v (is_across width (centre (pos u) (pos v)) left right)
    (across_level width (centre (pos u) (pos v)) left right (is_within columns u) _ _
    ((c.span_along.ensures v).passed u wide) c.deviations.ensures.margin (c.deviations.ensures.value u v)
    ∙ margin_same (is_within columns u) c.deviations.result levels u v c.not_falling.ensures.margin (c.not_falling.ensures.same u v))
    (outside_none rows v (λ y. is_across width (centre (pos u) (pos y)) left right)
    (λ before. c.rows_near.ensures.below u v high before)
    (λ after. c.rows_near.ensures.above u v high after)))

pub returns-clause-columns : goal.returns-clause-columns
returns-clause-columns c = let columns = c.span_along.ensures 0 in omega (arith, columns.within)
