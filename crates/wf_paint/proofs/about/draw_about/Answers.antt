use Rattle.std.proofs.Common.{pos, FitsSigned, w64, to_z-of_z, rules, arith}
use Rattle.wf_geometry.specs.Operation.{SquareOf}
use Rattle.wf_geometry.specs.Span.{IsSpanOf}
use Rattle.wf_geometry.specs.Square.{is_in_span, is_in_square}
use Rattle.wf_paint.proofs.ColoredLemmas.{IsShown-from_colored}
use Rattle.wf_paint.proofs.ShownLemmas.{IsShown-none}
use Rattle.wf_paint.proofs.RowsLemmas.{rows_start, rows_end, rows_more}
use Rattle.wf_geometry.proofs.SpanLemmas.{square_before, square_after, square_row}
use Rattle.wf_paint.proofs.about.draw_about.Goals as goal

pub returns-in_default : goal.returns-in_default
returns-in_default c = rw c.in_default.is (IsShown-none c.args.canvas.now)

pub loop-row-init : goal.loop-row-init
loop-row-init c =
    let canvas = c.args.canvas.now in
    let position = c.args.position in
    let x : FitsSigned w64 c.x.result = search rules in
    let y : FitsSigned w64 c.y.result = search rules in
    let across : IsSpanOf (λ u. is_in_span c.args.size c.x.result (pos u)) c.width.result c.span_about-columns.result = simp to_z-of_z at c.span_about-columns.ensures in
    let up : IsSpanOf (λ u. is_in_span c.args.size c.y.result (pos u)) c.height.result c.span_about-rows.result = simp to_z-of_z at c.span_about-rows.ensures in
    let columns : IsSpanOf (λ u. is_in_span c.args.size position.x (pos u)) canvas.width c.span_about-columns.result = rw (c.x.ensures.value, c.width.ensures.value) at across in
    let rows : IsSpanOf (λ u. is_in_span c.args.size position.y (pos u)) canvas.height c.span_about-rows.result = rw (c.y.ensures.value, c.height.ensures.value) at up in
    rows_start (λ column row. is_in_square c.args.size position (pos column) (pos row)) c.span_about-rows.result.from c.in-Some.color canvas
    (λ column row wide high before. square_before c.args.size position canvas.width canvas.height c.span_about-columns.result c.span_about-rows.result columns rows column row wide high before)

pub loop-row-preserved : goal.loop-row-preserved
loop-row-preserved c =
    let canvas = c.args.canvas.now in
    let position = c.args.position in
    let x : FitsSigned w64 c.x.result = search rules in
    let y : FitsSigned w64 c.y.result = search rules in
    let across : IsSpanOf (λ u. is_in_span c.args.size c.x.result (pos u)) c.width.result c.span_about-columns.result = simp to_z-of_z at c.span_about-columns.ensures in
    let up : IsSpanOf (λ u. is_in_span c.args.size c.y.result (pos u)) c.height.result c.span_about-rows.result = simp to_z-of_z at c.span_about-rows.ensures in
    let columns : IsSpanOf (λ u. is_in_span c.args.size position.x (pos u)) canvas.width c.span_about-columns.result = rw (c.x.ensures.value, c.width.ensures.value) at across in
    let rows : IsSpanOf (λ u. is_in_span c.args.size position.y (pos u)) canvas.height c.span_about-rows.result = rw (c.y.ensures.value, c.height.ensures.value) at up in
    rows_more (λ column row. is_in_square c.args.size position (pos column) (pos row)) c.loop-row.row c.span_about-columns.result c.in-Some.color
    canvas c.loop-row.canvas c.cover.new.self c.loop-row.invariant
    (square_row c.args.size position canvas.width canvas.height c.span_about-columns.result c.span_about-rows.result columns rows c.loop-row.row c.loop-row.auto.row c.loop-row-test.true)
    c.cover.ensures

pub returns : goal.returns
returns c =
    let canvas = c.args.canvas.now in
    let position = c.args.position in
    let x : FitsSigned w64 c.x.result = search rules in
    let y : FitsSigned w64 c.y.result = search rules in
    let across : IsSpanOf (λ u. is_in_span c.args.size c.x.result (pos u)) c.width.result c.span_about-columns.result = simp to_z-of_z at c.span_about-columns.ensures in
    let up : IsSpanOf (λ u. is_in_span c.args.size c.y.result (pos u)) c.height.result c.span_about-rows.result = simp to_z-of_z at c.span_about-rows.ensures in
    let columns : IsSpanOf (λ u. is_in_span c.args.size position.x (pos u)) canvas.width c.span_about-columns.result = rw (c.x.ensures.value, c.width.ensures.value) at across in
    let rows : IsSpanOf (λ u. is_in_span c.args.size position.y (pos u)) canvas.height c.span_about-rows.result = rw (c.y.ensures.value, c.height.ensures.value) at up in
    let painted = rows_end (λ column row. is_in_square c.args.size position (pos column) (pos row)) c.loop-row.row c.in-Some.color canvas c.loop-row.canvas
    (λ column row wide high after. square_after c.args.size position canvas.width canvas.height c.span_about-columns.result c.span_about-rows.result columns rows column row wide high (omega arith))
    c.loop-row.invariant in
    rw c.in-Some.is (IsShown-from_colored (SquareOf c.args.size position) c.in-Some.color canvas _ painted)
