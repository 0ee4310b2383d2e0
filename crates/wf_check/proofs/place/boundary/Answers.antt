use Rattle.std.proofs.Common.{arith}
use Rattle.wf_check.proofs.Places.{whole}
use Rattle.wf_check.proofs.place.boundary.Goals as goal

pub loop-stop-init : goal.loop-stop-init
loop-stop-init c = record {
  between = whole c.args.all c.args.fault c.args.bytes.now c.args.from c.args.to c.requires.order c.requires.within c.requires.stops;
  up = omega arith;
}
