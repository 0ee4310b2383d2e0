use Rattle.std.proofs.Common.{◌≡◌, nat_lt, pos, FitsSigned, w64, to_z-of_z, ◌∙◌, rules, arith}
use Rattle.std.proofs.lemmas.Bool.{lt-ltb, le-ltb}
use Rattle.wf_geometry.specs.Exact.{is_less}
use Rattle.wf_geometry.specs.Operation.{FillOf}
use Rattle.wf_geometry.specs.Position.{middle, centre}
use Rattle.wf_paint.proofs.ColoredLemmas.{IsShown-from_colored}
use Rattle.wf_paint.proofs.EdgesLemmas.{inside_of_some}
use Rattle.wf_paint.proofs.InsideLemmas.{inside_below, inside_above}
use Rattle.wf_paint.proofs.ShownLemmas.{IsShown-none}
use Rattle.wf_paint.proofs.WalkLemmas.{rows_none, rows_more, rows_all}
use Rattle.wf_paint.proofs.inside.draw_inside.Goals as goal

pub returns-in_default : goal.returns-in_default
returns-in_default c = rw c.in_default.is (IsShown-none c.args.canvas.now)

pub loop-row-init : goal.loop-row-init
loop-row-init c =
    let edges = c.around-around.result.now in
    let high = c.height-height.ensures.value in
    let fits : FitsSigned w64 c.lowest.result = search rules in (
      rows_none edges c.centres_below-start.result c.in-Some.color c.args.canvas.now (λ column r within before.
          let counted : is_less (middle (pos r)) c.lowest.result ≡ nat_lt r c.centres_below-start.result = simp to_z-of_z at (c.centres_below-start.ensures.below r (omega arith)) in
          inside_below (centre (pos column) (pos r)) edges c.lowest.result (counted ∙ lt-ltb r c.centres_below-start.result before) c.lowest.ensures),
      (omega (arith, c.in_ok-odd.ensures.size, c.width.ensures.value), c.in_ok-odd.ensures.clear),
    )

pub loop-row-preserved : goal.loop-row-preserved
loop-row-preserved c = (
  rows_more c.around-around.result.now c.loop-row.row c.in-Some.color c.args.canvas.now c.loop-row.canvas c.fill_row.new.canvas c.loop-row.invariant.0 c.in_ok-fill_row.ensures.filled,
  (c.in_ok-fill_row.ensures.size ∙ c.loop-row.invariant.1.0, c.in_ok-fill_row.ensures.clear),
)

pub returns : goal.returns
returns c =
    let edges = c.around-around.result.now in
    let high = c.height-height.ensures.value in
    let past = c.loop-row-test.false in
    let fits : FitsSigned w64 c.highest.result = search rules in
    let filled = rows_all edges c.loop-row.row c.in-Some.color c.args.canvas.now c.loop-row.canvas (λ column r within after.
    let counted : is_less (middle (pos r)) c.highest.result ≡ nat_lt r c.centres_below-end.result = simp to_z-of_z at (c.centres_below-end.ensures.below r (omega arith)) in
    inside_above (centre (pos column) (pos r)) edges c.highest.result (counted ∙ le-ltb r c.centres_below-end.result (omega arith)) c.highest.ensures)
    c.loop-row.invariant.0 in
    rw c.in-Some.is (IsShown-from_colored (FillOf c.args.edges.now) c.in-Some.color c.args.canvas.now c.loop-row.canvas
    (inside_of_some c.args.edges.now edges c.in-Some.color c.args.canvas.now c.loop-row.canvas c.around-around.ensures filled))
