use Rattle.std.proofs.Common.{arith}
use Rattle.std.proofs.lemmas.Int.{ints}
use Rattle.wf_geometry.specs.Exact.{plus}
use Rattle.wf_paint.proofs.RowEndsLemmas.{part_inside}
use Rattle.wf_paint.proofs.strip.part.Goals as goal

pub returns-then-lies_in-clause-part : goal.returns-then-lies_in-clause-part
unfolding plus
returns-then-lies_in-clause-part c =
    let inside = c.lies_in.ensures c.if-lies_in.true in
    part_inside c.args.columns c.args.low c.args.high c.count.result c.count-then-lies_in.result (omega (arith, ints, c.count.ensures)) (omega (arith, ints, c.count-then-lies_in.ensures))
    (omega (arith, ints, c.count.ensures, inside.0)) (omega (arith, ints, c.count-then-lies_in.ensures, inside.1.1))

pub returns-else-lies_in-clause-part : goal.returns-else-lies_in-clause-part
returns-else-lies_in-clause-part c = record {
  within = record { from = c.multiples_up_to.result; to = c.multiples_up_to-else-lies_in.result };
  to_within = c.multiples_up_to-else-lies_in.ensures.within;
  from = c.multiples_up_to.ensures.below;
  to = c.multiples_up_to-else-lies_in.ensures.below;
  value = c.both.ensures;
}
