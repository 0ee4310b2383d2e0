use Rattle.std.proofs.Common.{◌≡◌, ◌+◌, List, pos, subst, sym, take, arith}
use Rattle.std.proofs.lemmas.List.{take_all}
use Rattle.wf_geometry.specs.Coverage.{is_on}
use Rattle.wf_geometry.specs.Operation.{LineOf}
use Rattle.wf_geometry.specs.Position.{centre}
use Rattle.wf_paint.specs.Shown.{IsColored}
use Rattle.wf_geometry.specs.Strip.{is_in_strip}
use Rattle.wf_geometry.specs.declared.operation.Segment.{Segment}
use Rattle.wf_paint.proofs.AlongLemmas.{on_any, segments_none, segments_more}
use Rattle.wf_paint.proofs.ColoredLemmas.{IsColored-after, IsColored-alike, IsShown-from_colored}
use Rattle.wf_paint.proofs.EdgesLemmas.{line_along_some}
use Rattle.wf_paint.proofs.ShownLemmas.{IsShown-none}
use Rattle.wf_paint.proofs.along.draw_along.Goals as goal

pub returns-in_default : goal.returns-in_default
returns-in_default c = rw c.in_default.is (IsShown-none c.args.canvas.now)

pub loop-segment-init : goal.loop-segment-init
loop-segment-init c = (segments_none c.args.width c.in-Some.color c.args.canvas.now, omega arith)

pub loop-segment-preserved : goal.loop-segment-preserved
loop-segment-preserved c =
    let strip = c.strip_of-strip.result in
    let segment = c.segment-item.result in
    let segments = c.line_segments-segments.result.now in
    let drawn : IsColored (λ column row. is_on c.args.width (centre (pos column) (pos row)) segment) c.in-Some.color c.loop-segment.canvas c.draw_strip.new.canvas =
    IsColored-alike (is_in_strip strip.levels strip.rows strip.columns) (λ column row. is_on c.args.width (centre (pos column) (pos row)) segment) c.in-Some.color c.loop-segment.canvas c.draw_strip.new.canvas
    (λ column row wide high. sym (c.strip_of-strip.ensures.shown column row (rw c.width.ensures.value wide) (rw c.height.ensures.value high))) c.draw_strip.ensures in (
      IsColored-after (on_any c.args.width (take (c.loop-segment.segment-index + 1) segments)) c.in-Some.color c.args.canvas.now c.draw_strip.new.canvas c.find_blocks-long.new.canvas
          (segments_more c.args.width segments c.loop-segment.segment-index segment segment c.in-Some.color
          c.args.canvas.now c.loop-segment.canvas c.draw_strip.new.canvas c.loop-segment-test.true c.segment-item.is c.loop-segment.invariant.0 drawn)
          c.find_blocks-long.ensures.alike,
      c.find_blocks-long.ensures.within,
    )

pub returns : goal.returns
returns c =
    let segments = c.line_segments-segments.result.now in
    let all : take c.loop-segment.segment-index segments ≡ segments = take_all c.loop-segment.segment-index segments (omega arith) in
    let colored : IsColored (on_any c.args.width segments) c.in-Some.color c.args.canvas.now c.loop-segment.canvas =
    subst (λ (some : List Segment). IsColored (on_any c.args.width some) c.in-Some.color c.args.canvas.now c.loop-segment.canvas) all c.loop-segment.invariant.0 in
    let drawn = line_along_some c.args.edges.now segments c.args.width c.in-Some.color c.args.canvas.now _ c.line_segments-segments.ensures colored in
    rw c.in-Some.is (IsShown-from_colored (LineOf c.args.width c.args.edges.now) c.in-Some.color c.args.canvas.now _ drawn)
