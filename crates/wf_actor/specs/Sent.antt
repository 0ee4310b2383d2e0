-- Where the messages of a process come from.
use Rattle.std.specs.Prelude.{◌≡◌, ◌⊎◌, ℕ, ⊤, List, [], ◌∷◌, ◌++◌, take, Vec}
use Rattle.std.specs.declared.alloc.Global.{Global}
use Rattle.wf_codec.specs.Message.{view}
use Rattle.wf_codec.specs.declared.message.Message.{Message}
use Rattle.wf_mail.specs.Mail.{IsFirstPart}
use Rattle.wf_mail.specs.Receiver.{ReceiverState}
use Rattle.wf_model.specs.Chosen.{IsIn}
use Rattle.wf_past.specs.declared.past.Past.{Past}
use Rattle.wf_wire.specs.FromPeer.{HasComeFrom}
use Rattle.wf_wire.specs.Post.{AreAmong, logged}
use Rattle.wf_wire.specs.declared.post.Post.{Post}
use Rattle.wf_wire.specs.declared.target.Target.{Target}
use Rattle.wf_actor.specs.Backlog.{most_messages}
use Rattle.wf_actor.specs.declared.actor.Origin.{Origin}
use Rattle.wf_actor.specs.declared.actor.Origin.TheVariants.{Own, Peer}

-- what had come on a connection: its greeting, and the receiver
abbrev pub Stream : Type 0
Stream = Past (Vec ℕ Global) ReceiverState

-- ---- what is sent

-- A post of these messages, made when the node had returned all of those.
pub record IsPostOf (messages : List Message) (target : Target) (emitted : List Message) (post : Post) : Type 0 where
  pub are : post.messages.items ≡ messages
  pub for : post.target ≡ target
  pub returned : logged post.returned.items ≡ emitted

-- Messages wait, if there are any, in one post behind those before; where there is no room for it
-- it is dropped.
abbrev pub AreQueued : List Message → Target → List Message → List Post → List Post → Type 0
AreQueued [] target emitted before after = after ≡ before
AreQueued (m ∷ messages) target emitted before after =
    (post : Post) × IsPostOf (m ∷ messages) target emitted post × (after ≡ take most_messages (before ++ post ∷ []))

-- each post was made when the node had returned the first of these
unfoldable pub AreMadeOf : List Post → List Message → Type 0
AreMadeOf posts emitted = (post : Post) → IsIn post posts → IsFirstPart (logged post.returned.items) emitted

-- What waits for the node itself, and what is in posts that wait, the node returned.
pub record AreSent (waiting : List Message) (posts : List Post) (emitted : List Message) : Type 0 where
  pub waits : AreAmong waiting emitted
  pub made : AreMadeOf posts emitted

-- ---- what is received

-- these messages, if they are a peer's, came on a connection from it
abbrev pub AreCome : Origin → List Message → Type 0
AreCome Own messages = ⊤
AreCome (Peer peer stream) messages = (m : Message) → IsIn m messages → HasComeFrom peer stream.items (view m)

-- so did each of these
unfoldable pub AreGivenCome : List (Message × Origin) → Type 0
AreGivenCome given = (m : Message) (peer : ℕ) (stream : Stream) → IsIn (m, Peer peer stream) given → HasComeFrom peer stream.items (view m)
