use Rattle.std.proofs.Common.{◌≡◌, ◌+◌, pos, nat_abs, arith}
use Rattle.std.proofs.lemmas.Int.{ints}
use Rattle.wf_geometry.specs.Exact.{plus}
use Rattle.wf_paint.proofs.strip.is_box_hidden.Goals as goal

pub returns : goal.returns
unfolding plus
returns c = λ is.
    let from : c.count-from.result ≡ nat_abs (plus c.args.left (pos 1)) = omega (arith, ints, c.count-from.ensures) in
    let to : c.count.result + c.from.result ≡ nat_abs (plus c.args.right (pos 1)) + c.args.width = omega (arith, ints, c.count.ensures, c.from.ensures) in
    rw (from, to) at (c.hides.ensures is)
