-- What the readers of a node were replied.
use Rattle.std.specs.Prelude.{⊤, List, [], ◌∷◌}
use Rattle.wf_peer_connections.specs.Exchanges.{Exchange, IsRepliedFrom}
use Rattle.wf_voter.specs.Continuation.{IsEarlier}
use Rattle.wf_voter.specs.Lived.{HasLived}
use Rattle.wf_voter.specs.Process.{Process}
use Rattle.wf_tape.specs.declared.tape.Tape.{Ghosts as Tape}

module _ {T : Type 0} (tapes : Tape T) where
  -- a question with its reply, by the list that the node of this process had published, as that was
  -- at an earlier moment; by then it had lived
  pub record IsRepliedEarlier (now : Process T tapes) (exchange : Exchange) : Type 0 where
    pub past : Process T tapes
    pub earlier : IsEarlier tapes past now
    pub lived : HasLived tapes past
    pub replied : IsRepliedFrom past.actor.node.parts.history exchange

  -- so each of these
  unfoldable pub AreRepliedEarlier : Process T tapes → List Exchange → Type 0
  AreRepliedEarlier now [] = ⊤
  AreRepliedEarlier now (exchange ∷ exchanges) = IsRepliedEarlier now exchange × AreRepliedEarlier now exchanges

  -- If they were so before, these are so after.
  abbrev pub StayReplied : (before after : Process T tapes) (exchanges exchanges' : List Exchange) → Type 0
  StayReplied before after exchanges exchanges' = ∥ AreRepliedEarlier before exchanges ∥₁ → ∥ AreRepliedEarlier after exchanges' ∥₁
