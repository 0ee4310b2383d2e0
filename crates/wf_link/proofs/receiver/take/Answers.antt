-- The piece arrives after what had arrived, or it breaks off.
use Rattle.std.proofs.Common.{◌≡◌, map}
use Rattle.std.proofs.lemmas.Result.{on_ok_weaker}
use Rattle.wf_codec.specs.Message.{view}
use Rattle.wf_farm.specs.declared.carrier.CarrierFault.TheVariants as faults
use Rattle.wf_link.proofs.Arrived.{piece_taken}
use Rattle.wf_link.proofs.Causes.{broken_piece, never_lost}
use Rattle.wf_link.proofs.receiver.take.Goals as goal

pub returns-in-Ok-clause-taken : goal.returns-in-Ok-clause-taken
returns-in-Ok-clause-taken c =
    on_ok_weaker c.keep.result
    (λ kept. piece_taken c.args.piece.now c.args.arrival.now (record { inbox = c.feed.new.self; messages = c.keep.new.messages }) (map view c.in-Ok.messages.items) c.in-Ok.ensures.ok kept)
    c.keep.ensures.kept

pub returns-in-Ok-clause-broken : goal.returns-in-Ok-clause-broken
returns-in-Ok-clause-broken c = never_lost c.keep.result c.keep.ensures.memory

pub returns-in-Err-clause-broken : goal.returns-in-Err-clause-broken
returns-in-Err-clause-broken c = λ lost.
    let same : c.why_unfed.result ≡ faults.Lost = cc in
    broken_piece c.args.piece.now c.args.arrival.now c.in-Err.fault c.feed.new.self (c.in-Err.ensures.broken (c.why_unfed.ensures same))
