use Rattle.std.proofs.Common.{false}
use Rattle.wf_check.proofs.Places.{next_stops, past_end}
use Rattle.wf_check.proofs.place.last_block.Goals as goal

pub boundary-requires-clause-stops : goal.boundary-requires-clause-stops
boundary-requires-clause-stops c = past_end false c.args.fault c.args.bytes.now

pub boundary-requires-in-Some-clause-stops : goal.boundary-requires-in-Some-clause-stops
boundary-requires-in-Some-clause-stops c =
    next_stops c.args.fault c.args.bytes.now _ _ c.in_ok-layer.ensures.boundary c.in-Some.ensures.from c.in-Some.ensures.block c.in-Some.ensures.first
