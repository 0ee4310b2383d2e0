-- The entry of the number has the node of that number.
use Rattle.std.proofs.Common.{length, refl, sym}
use Rattle.wf_catch_up.proofs.Common.{ltb-false, ltb-true, slice_get_past, slice_get_read}
use Rattle.wf_catch_up.proofs.Level.{rank_nowhere, rank_host}
use Rattle.wf_catch_up.proofs.questions.rank_at.Goals as goal

pub returns-in-Some : goal.returns-in-Some
returns-in-Some g c =
    let hosts = c.args.hosts.now in
    let within = ltb-true c.args.number (length hosts) (sym c.in-Some.ensures.lookup.0) in
    rank_host hosts c.args.number c.in-Some.host.now c.rank_in.result (slice_get_read hosts (length hosts) c.args.number c.in-Some.host.now refl within c.in-Some.ensures.lookup.1) c.rank_in.ensures

pub returns-in-None : goal.returns-in-None
returns-in-None g c =
    let hosts = c.args.hosts.now in
    rank_nowhere hosts c.args.number (slice_get_past hosts c.args.number (ltb-false c.args.number (length hosts) (sym c.in-None.ensures.lookup.0)))
