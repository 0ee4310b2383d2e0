-- What is sent on a connection to a peer.
use Rattle.std.specs.Prelude.{◌≡◌, ℕ, ◌*◌, Bool, List, [], ◌++◌, map, Option, Some, None, is_some, true, false}
use Rattle.wf_codec.specs.Message.{view}
use Rattle.wf_def.specs.Definition.{Definition}
use Rattle.wf_mail.specs.Mail.{AreMessages, IsFirstPart, spelled}
use Rattle.wf_mail.specs.Outbox.{OutboxState}
use Rattle.wf_mail.specs.Stream.{most_message_bytes}
use Rattle.wf_model.specs.Chosen.{IsIn}
use Rattle.wf_model.specs.Message.{Message}
use Rattle.wf_peer.specs.Greeting.{IsGreeting, greeting_bytes}
use Rattle.wf_peer.specs.declared.greeting.Greeting.{Greeting}
use Rattle.wf_wire.specs.Post.{logged}
use Rattle.wf_wire.specs.declared.post.Post.{Post}

-- what was put into the outbox, and what was written of it, if there is one
abbrev pub put_into : Option OutboxState → List (Message Definition)
put_into None = []
put_into (Some outbox) = outbox.put

abbrev pub written_of : Option OutboxState → List ℕ
written_of None = []
written_of (Some outbox) = outbox.written

-- the bytes of messages that wait in it
abbrev pub waiting_for : Option OutboxState → List ℕ
waiting_for None = []
waiting_for (Some outbox) = outbox.waiting

-- an outbox comes once all of the greeting was sent
abbrev pub IsGreetedFirst : Option OutboxState → List ℕ → Type 0
IsGreetedFirst outbox left = is_some outbox ≡ true → left ≡ []

-- a greeting has these bytes
pub record IsGreetingOf (bytes : List ℕ) : Type 0 where
  pub said : Greeting
  pub is : IsGreeting said
  pub are : bytes ≡ greeting_bytes said

-- The node had returned the message when one of these was posted.
pub record WasReturned (posts : List (Post × ℕ)) (m : Message Definition) : Type 0 where
  pub post : Post
  pub number : ℕ
  pub posted : IsIn (post, number) posts
  pub returned : IsIn m (map view (logged post.returned.items))

-- each message that was put in was returned by the node before one of these was posted
unfoldable pub AreReturned : List (Message Definition) → List (Post × ℕ) → Type 0
AreReturned put posts = (m : Message Definition) → IsIn m put → WasReturned posts m

-- These bytes are a beginning of a greeting's and of the encodings of these messages.
pub record IsSentAs (sent : List ℕ) (put : List (Message Definition)) : Type 0 where
  pub own : Greeting
  pub is_greeting : IsGreeting own
  pub messages : AreMessages put
  pub begins : IsFirstPart sent (greeting_bytes own ++ spelled put)

-- the most bytes that wait for a peer
abbrev pub most_outbox_bytes : ℕ
most_outbox_bytes = 8 * most_message_bytes

-- Nothing was put into this outbox yet.
pub record IsNewOutbox (outbox : OutboxState) : Type 0 where
  pub put : outbox.put ≡ []
  pub written : outbox.written ≡ []
  pub waiting : outbox.waiting ≡ []
  pub limit : outbox.limit ≡ most_outbox_bytes

-- By whether there is an outbox now: the one that was there, or a new one.
abbrev pub IsOpenedAs : Bool → Option OutboxState → Option OutboxState → Type 0
IsOpenedAs false before after = (before ≡ None) × (after ≡ None)
IsOpenedAs true before None = ⊥
IsOpenedAs true None (Some after) = IsNewOutbox after
IsOpenedAs true (Some before) (Some after) = after ≡ before
