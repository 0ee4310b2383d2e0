use Rattle.std.proofs.Common.{◌+◌, ◌/◌, ◌^◌, ℕ, w64, arith}
use Rattle.std.specs.Int.{trailing_zeros}
use Rattle.wf_paint.proofs.CellsLemmas.{written_to_end, lowest_set, one_written}
use Rattle.wf_paint.proofs.canvas.write_set.Goals as goal

pub returns-then-rest-eq0 : goal.returns-then-rest-eq0
returns-then-rest-eq0 c =
    written_to_end c.args.first c.args.bits c.args.color c.args.pixels.now c.loop-here.here c.loop-here.pixels
    (omega (arith, c.ranges.bits.fits)) (omega arith) c.loop-here.invariant.1

pub write-requires : goal.write-requires
write-requires c =
    let found = lowest_set c.args.first c.args.bits c.args.color c.args.pixels.now c.loop-here.here (omega (arith, c.ranges.bits.fits)) (omega arith) in
    let set : ℕ = c.loop-here.here + trailing_zeros w64 (c.args.bits / 2 ^ c.loop-here.here) in
    omega (arith, c.requires.within set found.1, c.loop-here.invariant.1.size)

pub loop-here-preserved : goal.loop-here-preserved
loop-here-preserved c =
    let here = c.loop-here.here in
    let found = lowest_set c.args.first c.args.bits c.args.color c.args.pixels.now here (omega (arith, c.ranges.bits.fits)) (omega arith) in
    let set : ℕ = here + trailing_zeros w64 (c.args.bits / 2 ^ here) in (
      omega (arith, found.0),
      one_written c.args.first c.args.bits c.args.color c.args.pixels.now here set c.loop-here.pixels c.write.new.self
          (omega arith) found.1 found.2 c.loop-here.invariant.1 c.write.ensures,
    )
