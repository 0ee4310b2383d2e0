-- What comes on connections was sent before: what the program proves of it, and TCP's promise.
use Rattle.std.specs.Prelude.{ℕ, ⊤, List, [], ◌∷◌, ◌++◌, map, Vec}
use Rattle.std.specs.declared.alloc.Global.{Global}
use Rattle.wf_actor.specs.Farm.{AreCarried, Step}
use Rattle.wf_actor.specs.Sent.{AreCome}
use Rattle.wf_actor.specs.declared.actor.Origin.{Origin}
use Rattle.wf_actor.specs.declared.actor.Origin.TheVariants.{Own, Peer}
use Rattle.wf_execution.specs.Run.{given_to}
use Rattle.wf_codec.specs.Message.{view}
use Rattle.wf_codec.specs.declared.message.Message.{Message}
use Rattle.wf_def.specs.Definition.{Definition}
use Rattle.wf_mail.specs.Mail.{IsFirstPart}
use Rattle.wf_mail.specs.Receiver.{ReceiverState}
use Rattle.wf_model.specs.Chosen.{IsIn}
use Rattle.wf_model.specs.Message as model
use Rattle.wf_wire.specs.FromPeer.{HasComeFrom, bytes_by_then}
use Rattle.wf_wire.specs.Post.{AreAmong}
use Rattle.wf_wire.specs.ToPeer.{IsSentAs}

-- ---- what the program proves

-- each message that a step delivers from a peer came on a connection from that peer
unfoldable pub AreStepsCome : List Step → Type 0
AreStepsCome [] = ⊤
AreStepsCome (step ∷ steps) = AreCome step.origin (given_to step.takes) × AreStepsCome steps

-- ---- the premise

-- All bytes that had come on the connection are a beginning of what was sent on some connection,
-- into which only messages were put that are among these. Where these are all messages that any
-- node had returned by then, that is TCP's promise: what had come by then is a beginning of all
-- that has come (`pop` of `wf_wire`), and a node puts in no others (`always_sent`).
pub record IsSentBefore (sent : List Message) {peer : ℕ} {stream : List (Vec ℕ Global × ReceiverState)} {m : model.Message Definition} (come : HasComeFrom peer stream m) : Type 0 where
  pub bytes : List ℕ
  pub put : List (model.Message Definition)
  pub sent_as : IsSentAs bytes put
  pub begins : IsFirstPart (bytes_by_then come) bytes
  pub returned : AreAmong put (map view sent)

-- so it is for each message that comes from a peer
abbrev pub ArePeersSent : List Message → Origin → List Message → Type 0
ArePeersSent sent Own messages = ⊤
ArePeersSent sent (Peer peer stream) messages = (m : Message) → IsIn m messages → (come : HasComeFrom peer stream.items (view m)) → IsSentBefore sent come

-- So it is for each message that a step delivers from a peer, with these messages and what earlier
-- steps returned, of whichever process.
unfoldable pub AreSentBefore : List Message → List Step → Type 0
AreSentBefore sent [] = ⊤
AreSentBefore sent (step ∷ steps) = ArePeersSent sent step.origin (given_to step.takes) × AreSentBefore (sent ++ step.outputs) steps

-- ---- the theorem

-- Then each message that a step delivers from a peer is one of these, or earlier steps returned it.
abbrev pub SentAreCarried : Type 0
SentAreCarried = (sent : List Message) (steps : List Step) → AreStepsCome steps → AreSentBefore sent steps → AreCarried sent steps
