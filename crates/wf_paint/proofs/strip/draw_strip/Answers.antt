use Rattle.std.proofs.Common.{◌≡◌, ◌+◌, ◌-◌, ◌*◌, ◌/◌, ℕ, pos, refl, subst, arith}
use Rattle.wf_geometry.specs.Exact.{opposite, product}
use Rattle.wf_geometry.specs.Strip.{is_in_strip, AreEnds, IsStripEnd}
use Rattle.wf_geometry.specs.Limit.{pixel_side}
use Rattle.wf_paint.proofs.ColoredLemmas.{IsColored-none}
use Rattle.wf_paint.proofs.RowEndsLemmas.{strip_joined, strip_none, end_leaps, ends_from}
use Rattle.wf_paint.proofs.strip.draw_strip.Goals as goal

pub returns-then-is_empty : goal.returns-then-is_empty
returns-then-is_empty c =
    IsColored-none (is_in_strip c.args.strip.levels c.args.strip.rows c.args.strip.columns) c.args.color c.args.canvas.now
    (λ column row wide high. c.is_empty.ensures.none c.if-is_empty.true column row)

pub draw_far-requires-clause-order : goal.draw_far-requires-clause-order
draw_far-requires-clause-order c = omega (arith, c.is_empty.ensures.rows c.if-is_empty.false)

pub draw_cut-requires-clause-order : goal.draw_cut-requires-clause-order
draw_cut-requires-clause-order c = omega (arith, c.is_empty.ensures.rows c.if-is_empty.false)

pub leap-requires-clause-step : goal.leap-requires-clause-step
leap-requires-clause-step c = omega (arith, c.in-Some.ensures.value.begins.rest)

pub loop-index-init : goal.loop-index-init
loop-index-init c =
    let strip = c.args.strip in
    let levels = c.args.strip.levels in
    let ends = c.in-Some.ends in
    let are : AreEnds levels strip.rows.from ends = c.in-Some.ensures.value in
    let first : strip.rows.from ≡ strip.rows.from + 16 * 0 = omega arith in (
      strip_none levels strip.columns strip.rows.from (strip.rows.from + 16 * 0) c.args.color c.args.canvas.now (omega arith),
      ends_from levels strip.rows.from (strip.rows.from + 16 * 0) ends ends.low are
          (subst (λ (r : ℕ). IsStripEnd (opposite levels.margin) levels.origin (product (pos pixel_side) levels.up) ends.step r ends.low) first are.begins)
          (omega (arith, are.near)),
    )

pub draw_block-requires : goal.draw_block-requires
draw_block-requires c =
    let levels = c.args.strip.levels in
    let row = c.args.strip.rows.from + 16 * c.loop-index.index in
    let ends = c.loop-index.invariant.1 in
    let next : IsStripEnd (opposite levels.margin) levels.origin (product (pos pixel_side) levels.up) c.in-Some.ends.step (row + 16) c.quotient_sum-next.result =
    end_leaps levels (opposite levels.margin) row c.in-Some.ends.step c.loop-index.low c.in-Some-leap.leap c.quotient_sum-next.result ends.begins c.in-Some-leap.ensures.value c.quotient_sum-next.ensures.value c.quotient_sum-next.ensures.rest in
    let high = c.loop-index.invariant.0.height in
    let wide = c.loop-index.invariant.0.width in
    record {
      block = refl;
      rows = omega arith;
      most_rows = omega arith;
      columns = omega arith;
      ends = ends;
      next = next;
      near = omega (arith, ends.near, c.quotient_sum-next.ensures.within);
    }

pub draw_cut-requires-2 : goal.draw_cut-requires-2
draw_cut-requires-2 c =
    let levels = c.args.strip.levels in
    let blocks = (c.args.strip.rows.to - c.args.strip.rows.from) / 16 in
    let last : c.loop-index.index ≡ blocks = omega arith in
    let ends = rw last at c.loop-index.invariant.1 in
    let high = c.loop-index.invariant.0.height in
    let wide = c.loop-index.invariant.0.width in
    record {
      order = omega arith;
      rows = omega arith;
      most_rows = omega arith;
      columns = omega arith;
      ends = ends;
    }

pub loop-index-preserved : goal.loop-index-preserved
loop-index-preserved c =
    let levels = c.args.strip.levels in
    let from = c.args.strip.rows.from in
    let row = from + 16 * c.loop-index.index in
    let more : from + 16 * (c.loop-index.index + 1) ≡ row + 16 = omega arith in
    let ends = c.loop-index.invariant.1 in
    let next : IsStripEnd (opposite levels.margin) levels.origin (product (pos pixel_side) levels.up) c.in-Some.ends.step (row + 16) c.quotient_sum-next.result =
    end_leaps levels (opposite levels.margin) row c.in-Some.ends.step c.loop-index.low c.in-Some-leap.leap c.quotient_sum-next.result ends.begins c.in-Some-leap.ensures.value c.quotient_sum-next.ensures.value c.quotient_sum-next.ensures.rest in
    rw more (
      strip_joined levels c.args.strip.columns from row (row + 16) c.args.color c.args.canvas.now c.loop-index.canvas c.draw_block.new.canvas (omega arith) (omega arith)
          c.loop-index.invariant.0 c.draw_block.ensures,
      ends_from levels row (row + 16) (record { low = c.loop-index.low; gap = c.in-Some.ends.gap; change = c.in-Some.ends.change; step = c.in-Some.ends.step }) c.quotient_sum-next.result ends next
          (omega (arith, ends.near, c.quotient_sum-next.ensures.within)),
    )

pub returns : goal.returns
returns c =
    let levels = c.args.strip.levels in
    let blocks = (c.args.strip.rows.to - c.args.strip.rows.from) / 16 in
    let row = c.args.strip.rows.from + 16 * blocks in
    let last : c.loop-index.index ≡ blocks = omega arith in
    strip_joined levels c.args.strip.columns c.args.strip.rows.from row c.args.strip.rows.to c.args.color c.args.canvas.now c.loop-index.canvas c.draw_cut-2.new.canvas (omega arith) (omega arith)
    (rw last at c.loop-index.invariant.0) c.draw_cut-2.ensures
