-- The exchanges of a readers' port.
use Rattle.std.specs.Prelude.{List}
use Rattle.wf_sockets.specs.declared.connection.Connection.{Ghosts as Connection}
use Rattle.wf_readers_port.specs.Exchanges.{Exchange}
use Rattle.wf_readers_port.specs.declared.port.ReadersPort.{ReadersPort}

-- the questions of all its readers, each with its reply, in the order in which they were asked
abbrev pub exchanges_of : {N C L : Type 0} {connections : Connection C} → ReadersPort N C L connections → List Exchange
exchanges_of port = port.exchanges.items
