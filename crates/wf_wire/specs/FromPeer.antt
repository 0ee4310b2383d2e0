-- What came on a connection from a peer.
use Rattle.std.specs.Prelude.{◌≡◌, ℕ, Bool, true, false, List, [], ◌∷◌, ◌++◌, Option, Some, None, Vec}
use Rattle.std.specs.declared.alloc.Global.{Global}
use Rattle.wf_def.specs.Definition.{Definition}
use Rattle.wf_mail.specs.Receiver as receivers
use Rattle.wf_mail.specs.Receiver.{ReceiverState, came, taken}
use Rattle.wf_mail.specs.Stream.{Reads}
use Rattle.wf_model.specs.Chosen.{IsIn}
use Rattle.wf_model.specs.Message.{Message}
use Rattle.wf_peer.specs.Greeting.{IsGreeting, greeting_bytes}
use Rattle.wf_peer.specs.declared.greeting.Greeting.{Greeting}

-- All bytes that came are those of a greeting, or of a part of one, what the receiver took, and a
-- rest: none, as long as all was taken in.
pub record IsTakenIn (all greeting : List ℕ) (receiver : ReceiverState) (whole : Bool) : Type 0 where
  pub rest : List ℕ
  pub bytes : all ≡ greeting ++ (taken receiver ++ rest)
  pub none : whole ≡ true → rest ≡ []

-- once these bytes are a greeting's, they are the whole of it
abbrev pub IsGreetedBy : Option Greeting → List ℕ → Type 0
IsGreetedBy None greeting = Unit {0}
IsGreetedBy (Some said) greeting = IsGreeting said × (greeting ≡ greeting_bytes said)

-- whether the receiver has had no error
abbrev pub takes_more : ReceiverState → Bool
takes_more (receivers.Open messages rest) = true
takes_more (receivers.Closed messages fault) = false

-- the peer, once it has greeted and is let in
abbrev pub peer_of : Option Greeting → Bool → Option ℕ
peer_of None is_let_in = None
peer_of (Some said) false = None
peer_of (Some said) true = Some said.node

-- The message came on a connection, of which a log has the greeting, which is that peer's, and the
-- receiver: it is one of the whole messages that the bytes after the greeting begin with.
pub record HasComeFrom (peer : ℕ) (stream : List (Vec ℕ Global × ReceiverState)) (m : Message Definition) : Type 0 where
  pub greeting : Vec ℕ Global
  pub receiver : ReceiverState
  pub only : stream ≡ (greeting, receiver) ∷ []
  pub said : Greeting
  pub is_greeting : IsGreeting said
  pub bytes : greeting.items ≡ greeting_bytes said
  pub by : said.node ≡ peer
  pub rest : List ℕ
  pub reads : Reads (taken receiver) (came receiver) rest
  pub one : IsIn m (came receiver)

-- the bytes that had come on the connection: those of the greeting, and what the receiver took
abbrev pub bytes_by_then : {peer : ℕ} {stream : List (Vec ℕ Global × ReceiverState)} {m : Message Definition} → HasComeFrom peer stream m → List ℕ
bytes_by_then come = come.greeting.items ++ taken come.receiver
