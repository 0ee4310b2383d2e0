-- What came from readers and was sent to them.
use Rattle.std.specs.Prelude.{◌≡◌, ⊤, List, [], ◌∷◌, ◌++◌, Option, Some, None}
use Rattle.wf_client.specs.ResponseBuffer.{rest_of}
use Rattle.wf_sockets.specs.declared.connection.Connection.{Ghosts as Connection}
use Rattle.wf_readers_port.specs.Exchanges.{Exchange, AreExchangesOf, questions_of, replies_of}
use Rattle.wf_readers_port.specs.declared.reader.Reader.{Reader}

module _ {C : Type 0} (connections : Connection C) where
  -- What came on a reader's connection is the questions of its exchanges, one after the other, and
  -- what came of the next one. What was sent on it, with what is still to be taken, is their
  -- replies, one after the other. Each of its exchanges is one of all.
  pub record IsReplied (all : List Exchange) (reader : Reader C connections) : Type 0 where
    pub asked : connections.came reader.connection ≡ questions_of reader.exchanges.items ++ reader.question.items
    pub replied : connections.sent reader.connection ++ rest_of reader.reply ≡ replies_of reader.exchanges.items
    pub logged : AreExchangesOf all reader.exchanges.items

  -- so in each slot that has a reader
  unfoldable pub AreReplied : List Exchange → List (Option (Reader C connections)) → Type 0
  AreReplied all [] = ⊤
  AreReplied all (None ∷ slots) = AreReplied all slots
  AreReplied all (Some reader ∷ slots) = IsReplied all reader × AreReplied all slots
