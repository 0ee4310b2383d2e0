-- Readers are replied to as they are in one way at most.
use Rattle.std.specs.Prelude.{List, [], ◌∷◌, Option, Some, None}
use Rattle.std.proofs.Props.{props}
use Rattle.wf_sockets.specs.declared.connection.Connection.{Ghosts as Connection}
use Rattle.wf_readers_port.specs.Exchanges.{Exchange, AreExchangesOf}
use Rattle.wf_readers_port.specs.Readers.{AreReplied, IsReplied}
use Rattle.wf_readers_port.specs.declared.reader.Reader.{Reader}

are_among_prop : (all exchanges : List Exchange) → IsProp (AreExchangesOf all exchanges)
unfolding AreExchangesOf
are_among_prop all [] = hlevel props
are_among_prop all (exchange ∷ exchanges) = hlevel (props, are_among_prop all exchanges)

module _ {C : Type 0} (connections : Connection C) where
  is_replied_prop : (all : List Exchange) (reader : Reader C connections) → IsProp (IsReplied connections all reader)
  is_replied_prop all reader = hlevel (props, are_among_prop all reader.exchanges.items)

  pub are_replied_prop : (all : List Exchange) (slots : List (Option (Reader C connections))) → IsProp (AreReplied connections all slots)
  unfolding AreReplied
  are_replied_prop all [] = hlevel props
  are_replied_prop all (None ∷ slots) = are_replied_prop all slots
  are_replied_prop all (Some reader ∷ slots) = hlevel (props, is_replied_prop all reader, are_replied_prop all slots)
