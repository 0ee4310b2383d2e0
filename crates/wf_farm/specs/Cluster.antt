-- The nodes and messages of a farm as a world of the model, and the effect of events on both.
use Rattle.std.specs.Prelude.{◌≡◌, ℕ, List, [], ◌∷◌, length, map, slice_get, Option, Some, None}
use Rattle.wf_codec.specs.Message as message
use Rattle.wf_farm.specs.Common.{Message, Definition, definition_eq, Action, Input, StepRejection, World, Event, input_of, refused, happens, steps, TapeValue, IsImageNow}
use Rattle.wf_model.specs.World as world
use Rattle.wf_farm.specs.declared.rejection.Rejection.{Rejection}
use Rattle.wf_farm.specs.declared.cluster.Cluster.{Cluster}
use Rattle.wf_farm.specs.Fault.{reported}
use Rattle.wf_farm.specs.Hosts as entries
use Rattle.wf_farm.specs.NodeHost.{MemoryHost, IsHostOf, KeepsSturdy}

-- index by index, these nodes of the model
abbrev pub AreNodes : List MemoryHost → List (world.Node Definition) → Type 0
AreNodes hosts nodes = entries.AreNodes IsImageNow hosts nodes

-- The entries and the messages are this world.
pub record Refines (hosts : List MemoryHost) (sent : List Message) (w : World Definition) : Type 0 where
  pub nodes : AreNodes hosts w.nodes
  pub messages : w.sent ≡ map message.view sent

-- the input of an action, where these messages were sent
abbrev pub input_in : List Message → Action Definition ℕ → Option (Input Definition)
input_in sent action = input_of (map message.view sent) action

-- each entry has the node of its index, and none has failed
unfoldable pub AreSoundHosts : List MemoryHost → Type 0
AreSoundHosts hosts = (i : ℕ) (host : MemoryHost) → slice_get hosts i ≡ Some host → IsHostOf (length hosts) i host

-- There are as many members as before, and none has failed; a tape that doesn't fail still doesn't.
pub record KeepMembers (before after : List MemoryHost) : Type 0 where
  pub as_many : length after ≡ length before
  pub members : AreSoundHosts before → AreSoundHosts after
  pub sturdy : (i : ℕ) (host : MemoryHost) → slice_get after i ≡ Some host → (was : MemoryHost) × (slice_get before i ≡ Some was) × KeepsSturdy was host

-- The change keeps whatever world was shown.
abbrev pub Turns : (World Definition → World Definition) → List MemoryHost → List Message → List MemoryHost → List Message → Type 0
Turns change hosts sent hosts_after sent_after =
    (w : World Definition) → Refines hosts sent w → Refines hosts_after sent_after (change w)

-- nothing that a world shows has changed
unfoldable pub StayShown : List MemoryHost → List Message → List MemoryHost → List Message → Type 0
StayShown hosts sent hosts_after sent_after = Turns (λ w. w) hosts sent hosts_after sent_after

-- a run of these events
unfoldable pub Moves : List (Event Definition) → List MemoryHost → List Message → List MemoryHost → List Message → Type 0
Moves events hosts sent hosts_after sent_after = Turns (λ w. steps definition_eq w events) hosts sent hosts_after sent_after

-- the rejection reported for an action or an event is that of the world before
abbrev pub ReportsWhy : (World Definition → Option StepRejection) → Option Rejection → List MemoryHost → List Message → Type 0
ReportsWhy why rejection hosts sent = (w : World Definition) → Refines hosts sent w → rejection ≡ reported (why w)

-- an event
pub record Happens (event : Event Definition) (rejection : Option Rejection) (hosts : List MemoryHost) (sent : List Message) (hosts_after : List MemoryHost) (sent_after : List Message) : Type 0 where
  pub reaches : Turns (λ w. happens definition_eq w event) hosts sent hosts_after sent_after
  pub why : ReportsWhy (λ w. refused w event) rejection hosts sent

-- the rejection of the last event, None if there is no event or no rejection
unfoldable pub last_rejected : World Definition → List (Event Definition) → Option StepRejection
last_rejected w [] = None
last_rejected w (event ∷ []) = refused w event
last_rejected w (event ∷ next ∷ rest) = last_rejected (happens definition_eq w event) (next ∷ rest)

-- ---- the same of a cluster, as the code has it

-- what holds of its entries and its messages
abbrev pub HoldsIn : (List MemoryHost → List Message → Type 0) → Cluster TapeValue → Type 0
HoldsIn holds cluster = holds cluster.hosts.items cluster.sent.items

-- what holds between those of one and those of another
abbrev pub Between : (List MemoryHost → List Message → List MemoryHost → List Message → Type 0) → Cluster TapeValue → Cluster TapeValue → Type 0
Between holds before after = holds before.hosts.items before.sent.items after.hosts.items after.sent.items
