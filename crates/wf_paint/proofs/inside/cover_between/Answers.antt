use Rattle.std.proofs.Common.{arith}
use Rattle.wf_paint.proofs.WalkLemmas.{walked_start, walked_covered, walked_skipped, walked_all}
use Rattle.wf_paint.proofs.inside.cover_between.Goals as goal
use Rattle.wf_paint.proofs.inside.cover_between.Goals.{then-is_covered, else-is_covered}

pub loop-to-init : goal.loop-to-init
loop-to-init c = walked_start c.args.row c.args.reaches.now c.args.color c.args.canvas.now

pub loop-to-preserved : goal.loop-to-preserved
loop-to-preserved c =
    elim c.if-is_covered.branch [
      | then-is_covered w ↦ rw w.canvas-is (walked_covered c.args.row c.args.reaches.now c.loop-to.to-index c.loop-to.from c.loop-to.is_covered c.args.color c.args.canvas.now c.loop-to.canvas
          c.loop-to.invariant c.requires.sorted (omega arith) _ w.if-is_covered.true w.cover.ensures)
      | else-is_covered w ↦ rw w.canvas-is (walked_skipped c.args.row c.args.reaches.now c.loop-to.to-index c.loop-to.from c.loop-to.is_covered c.args.color c.args.canvas.now c.loop-to.canvas
          c.loop-to.invariant c.requires.sorted (omega arith) w.if-is_covered.false)
    ]

pub cover-requires : goal.cover-requires
cover-requires c =
    let wide = c.loop-to.invariant.colored.width in
    let high = c.loop-to.invariant.colored.height in
    let small = c.requires.within c.loop-to.to-index 0 (omega arith) in
    record { row_within = omega arith; to_within = omega arith }

pub returns : goal.returns
returns c =
    walked_all c.args.row c.args.reaches.now c.loop-to.to-index c.loop-to.from c.loop-to.is_covered c.args.color c.args.canvas.now c.loop-to.canvas (omega arith) c.loop-to.invariant
