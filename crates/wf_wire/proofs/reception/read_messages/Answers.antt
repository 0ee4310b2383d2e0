use Rattle.std.proofs.Common.{◌≤◌, length, take, refl, rules}
use Rattle.wf_wire.proofs.Arrival.{some_moved, taken_on}
use Rattle.wf_wire.proofs.reception.read_messages.Goals as goal

pub returns-in-Ok-clause-read : goal.returns-in-Ok-clause-read
returns-in-Ok-clause-read g c =
    let piece = take c.in-Bytes.count c.read.new.buf in
    let within : c.in-Bytes.count ≤ length c.read.new.buf = search rules in
    taken_on c.in-Ok.messages (g.C.Connection.came c.args.connection.now) (g.C.Connection.came c.read.new.self) piece c.args.receiver.now c.receive.new.self
    (some_moved c.in-Bytes.count c.read.new.buf piece refl c.in-Bytes.ensures.within.0 within) c.in-Bytes.ensures.came c.in-Ok.ensures.ok c.in-Ok.ensures.bytes
