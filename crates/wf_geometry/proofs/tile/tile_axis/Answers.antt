use Rattle.std.proofs.Common.{arith}
use Rattle.std.proofs.lemmas.Int.{ints}
use Rattle.wf_geometry.proofs.GridLemmas.{level_wide}
use Rattle.wf_geometry.proofs.tile.tile_axis.Goals as goal

pub new-requires : goal.new-requires
new-requires c =
    let wide = level_wide c.args.width c.args.cells c.requires.level in
    record {
      origin = c.millionths.ensures.within;
      least = omega arith;
      most = c.requires.width_most;
      finest = omega arith;
      shift = omega (arith, ints);
    }
