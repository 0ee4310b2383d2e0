use Rattle.std.proofs.Common.{◌+◌, pos, nat_abs, FitsSigned, w64, to_z-of_z, rules, arith}
use Rattle.std.proofs.lemmas.Int.{ints}
use Rattle.wf_geometry.specs.Exact.{plus}
use Rattle.wf_paint.proofs.strip.is_hidden.Goals as goal

pub returns-then-low-next : goal.returns-then-low-next
unfolding plus
returns-then-low-next c = λ is.
    let first = c.requires.first in
    let last = c.requires.last in
    let lows : FitsSigned w64 c.args.low.whole = search rules in
    let nexts : FitsSigned w64 c.args.next.whole = search rules in
    record {
      columns = record { from = nat_abs (plus c.args.low.whole (pos 1)); to = nat_abs (plus c.args.next.whole (pos 1)) + c.args.width };
      first = record { least = first.least; most = first.most; from = omega (arith, ints, first.from); to = omega (arith, ints, first.from, last.from) };
      last = record { least = last.least; most = last.most; from = omega (arith, ints, first.from, last.from); to = omega (arith, ints, last.from) };
      painted = simp to_z-of_z at (c.is_box_hidden.ensures is);
    }

pub returns-else-low-next : goal.returns-else-low-next
unfolding plus
returns-else-low-next c = λ is.
    let first = c.requires.first in
    let last = c.requires.last in
    let lows : FitsSigned w64 c.args.low.whole = search rules in
    let nexts : FitsSigned w64 c.args.next.whole = search rules in
    record {
      columns = record { from = nat_abs (plus c.args.next.whole (pos 1)); to = nat_abs (plus c.args.low.whole (pos 1)) + c.args.width };
      first = record { least = first.least; most = first.most; from = omega (arith, ints, first.from, last.from); to = omega (arith, ints, first.from) };
      last = record { least = last.least; most = last.most; from = omega (arith, ints, last.from); to = omega (arith, ints, first.from, last.from) };
      painted = simp to_z-of_z at (c.is_box_hidden-else-low-next.ensures is);
    }
