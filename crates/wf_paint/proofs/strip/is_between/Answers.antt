use Rattle.std.proofs.Common.{arith}
use Rattle.std.proofs.lemmas.Int.{ints}
use Rattle.wf_geometry.specs.Exact.{plus}
use Rattle.wf_paint.proofs.strip.is_between.Goals as goal

pub returns-then-width-le64 : goal.returns-then-width-le64
unfolding plus
returns-then-width-le64 c = λ is.
    let inside = c.lies_in.ensures is in
    record {
      least = omega (arith, ints, inside.1.0, c.from.ensures);
      most = omega arith;
      from = omega (arith, ints, inside.0);
      to = omega (arith, ints, inside.1.1, c.from.ensures);
    }
