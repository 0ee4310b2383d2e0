-- A run in which one call of a node's tape fails. If it fails within a step, the node crashes there
-- and is opened again: a crash within a step and a restart in the model.
use Rattle.std.specs.Prelude.{◌≡◌, ◌⊎◌, ◌<◌, ◌+◌, ◌≤◌, ℕ, ⊤, List, [], ◌∷◌, ◌++◌, length, take, drop, slice_get, Option, Some, None}
use Rattle.wf_farm.specs.Common.{Message, Definition, definition_eq, Action, StepRejection, World, Event, happens, refused, Kept, NeverFails}
use Rattle.wf_model.specs.Kept.{view as view_kept}
use Rattle.wf_model.specs.World as world
use Rattle.wf_farm.specs.declared.fate.Happened.{Happened}
use Rattle.wf_farm.specs.declared.fault.FarmFault.{FarmFault}
use Rattle.wf_farm.specs.declared.fault.FarmFault.TheVariants.{Memory, NoNode, Carried}
use Rattle.wf_farm.specs.declared.progress.PumpEnd.{PumpEnd}
use Rattle.wf_delivery.specs.declared.progress.PumpProgress.{PumpProgress}
use Rattle.wf_farm.specs.declared.rejection.Rejection.{Rejection}
use Rattle.wf_farm.specs.Cluster.{Turns, Moves, ReportsWhy, last_rejected}
use Rattle.wf_farm.specs.Farm.{MemoryFarm, Runs}
use Rattle.wf_farm.specs.NodeHost.{MemoryHost, tape_in}
use Rattle.wf_farm.specs.PumpProgress.{IsMade}
use Rattle.wf_delivery.specs.Progress.{begun, most_deliveries}
use Rattle.wf_delivery.specs.Rounds.{deliveries}

-- ---- the events of such a run

-- a step of a node
pub record FusedStep : Type 0 where
  pub node : ℕ
  pub action : Action Definition ℕ

-- the step of an event, also of one that is a crash within a step; a stop and a restart are none
unfoldable pub step_of : Event Definition → Option FusedStep
step_of (world.Act i action) = Some (record { node = i; action = action })
step_of (world.Stop i) = None
step_of (world.Restart i) = None
step_of (world.Torn i action kept) = Some (record { node = i; action = action })

-- the node crashes within the step, and restarts
abbrev pub crash_within : world.Kept → FusedStep → List (Event Definition)
crash_within kept step = world.Torn step.node step.action kept ∷ world.Restart step.node ∷ []

-- the same, if there is a step, and in place of an event
abbrev pub crash_if : world.Kept → Option FusedStep → List (Event Definition)
crash_if kept None = []
crash_if kept (Some step) = crash_within kept step

abbrev pub crash_at : world.Kept → Option (Event Definition) → List (Event Definition)
crash_at kept None = []
crash_at kept (Some event) = crash_if kept (step_of event)

-- these events, but within the step of the one of this number, counted from 0, its node crashes and
-- then restarts
abbrev pub torn_at : List (Event Definition) → ℕ → world.Kept → List (Event Definition)
torn_at events k kept = take k events ++ crash_at kept (slice_get events k) ++ drop (k + 1) events

-- the events that happen, by the number of the one within whose step the tape failed and by what
-- the crash left
abbrev pub with_torn : List (Event Definition) → Option (ℕ × Kept) → List (Event Definition)
with_torn events None = events
with_torn events (Some torn) = torn_at events torn.0 (view_kept torn.1)

-- the event is a step of this node
abbrev pub IsStepOf : ℕ → Event Definition → Type 0
IsStepOf i event = (action : Action Definition ℕ) × (step_of event ≡ Some (record { node = i; action = action }))

-- what was torn is a step of this node
abbrev pub IsStepOfNode : ℕ → List (Event Definition) → Option (ℕ × Kept) → Type 0
IsStepOfNode i events None = ⊤
IsStepOfNode i events (Some torn) = (event : Event Definition) × (slice_get events torn.0 ≡ Some event) × IsStepOf i event

-- These events happen to the farm; or one of them is a step of node i, within which the node
-- crashes, and then it restarts.
pub record RunsOrTears (i : ℕ) (events : List (Event Definition)) (torn : Option (ℕ × Kept)) (before after : MemoryFarm) : Type 0 where
  pub runs : Runs (with_torn events torn) before after
  pub step : IsStepOfNode i events torn

-- What is reported of one event: why it was rejected, if it was. One whose step was torn wasn't.
abbrev pub ReportsWhyUnlessTorn : Event Definition → Option (ℕ × Kept) → Option Rejection → List MemoryHost → List Message → Type 0
ReportsWhyUnlessTorn event None rejection hosts sent = ReportsWhy (λ w. refused w event) rejection hosts sent
ReportsWhyUnlessTorn event (Some torn) rejection hosts sent = rejection ≡ None

-- no tape has a fuse
unfoldable pub NoneFails : List MemoryHost → Type 0
NoneFails hosts = (i : ℕ) (host : MemoryHost) → slice_get hosts i ≡ Some host → NeverFails (tape_in host)

-- an allocation failed before the first of n events, or at one of them
abbrev pub FailsWithin : ℕ → FarmFault → Type 0
FailsWithin n (Memory done) = (done ≡ 0) ⊎ (done < n)
FailsWithin n NoNode = ⊥
FailsWithin n (Carried done) = ⊥

-- ---- for the crate's own contracts: one event

-- no tape may fail but that of the watched node
unfoldable pub FailsOnly : Option ℕ → List MemoryHost → Type 0
FailsOnly watched hosts = (i : ℕ) (host : MemoryHost) → slice_get hosts i ≡ Some host → (watched ≡ Some i → ⊥) → NeverFails (tape_in host)

-- If a step of node i was torn, its tape could fail.
abbrev pub TearsAt : Option Kept → ℕ → List MemoryHost → Type 0
TearsAt None i hosts = ⊤
TearsAt (Some kept) i hosts = (host : MemoryHost) × (slice_get hosts i ≡ Some host) × (NeverFails (tape_in host) → ⊥)

-- If an event was torn, it is a step of a node whose tape could fail.
abbrev pub TearsOnly : Option Kept → Event Definition → List MemoryHost → Type 0
TearsOnly None event hosts = ⊤
TearsOnly (Some kept) event hosts = (i : ℕ) × IsStepOf i event × TearsAt (Some kept) i hosts

-- why a step was rejected, if it was; one that was torn wasn't
abbrev pub ReportsUnless : (World Definition → Option StepRejection) → Option Kept → Option Rejection → List MemoryHost → List Message → Type 0
ReportsUnless why None rejection hosts sent = ReportsWhy why rejection hosts sent
ReportsUnless why (Some kept) rejection hosts sent = rejection ≡ None

-- The event happened, or its node crashed within its step and restarted.
abbrev pub HappensAs : Event Definition → Option Kept → List MemoryHost → List Message → List MemoryHost → List Message → Type 0
HappensAs event None hosts sent hosts_after sent_after = Turns (λ w. happens definition_eq w event) hosts sent hosts_after sent_after
HappensAs event (Some kept) hosts sent hosts_after sent_after = Moves (crash_at (view_kept kept) (Some event)) hosts sent hosts_after sent_after

pub record IsHappened (event : Event Definition) (what : Happened) (hosts : List MemoryHost) (sent : List Message) (hosts_after : List MemoryHost) (sent_after : List Message) : Type 0 where
  pub reaches : HappensAs event what.torn hosts sent hosts_after sent_after
  pub why : ReportsUnless (λ w. refused w event) what.torn what.why hosts sent

-- ---- events in turn, of which one may be torn

-- the event is a step of the watched node
abbrev pub IsWatchedStep : Option ℕ → Event Definition → Type 0
IsWatchedStep None event = ⊥
IsWatchedStep (Some i) event = IsStepOf i event

abbrev pub IsStepOfWatched : Option ℕ → List (Event Definition) → Option (ℕ × Kept) → Type 0
IsStepOfWatched watched events None = ⊤
IsStepOfWatched watched events (Some torn) = (event : Event Definition) × (slice_get events torn.0 ≡ Some event) × IsWatchedStep watched event

-- The events have happened, or one of them was torn.
pub record HaveFared (watched : Option ℕ) (events : List (Event Definition)) (torn : Option (ℕ × Kept)) (hosts : List MemoryHost) (sent : List Message) (hosts_after : List MemoryHost) (sent_after : List Message) : Type 0 where
  pub moves : Moves (with_torn events torn) hosts sent hosts_after sent_after
  pub step : IsStepOfWatched watched events torn

-- the tape of the watched node may fail until a step was torn
abbrev pub IsArmed : Option ℕ → Option (ℕ × Kept) → List MemoryHost → Type 0
IsArmed watched None hosts = FailsOnly watched hosts
IsArmed watched (Some torn) hosts = FailsOnly None hosts

-- One more event of a run, number k: it happened, or it was torn. That comes once in a run.
abbrev pub AddsEvent : Option ℕ → ℕ → Event Definition → Option (ℕ × Kept) → Option (ℕ × Kept) → List MemoryHost → List Message → List MemoryHost → List Message → Type 0
AddsEvent watched k event (Some torn) now hosts sent hosts_after sent_after = (now ≡ Some torn) × HappensAs event None hosts sent hosts_after sent_after
AddsEvent watched k event None None hosts sent hosts_after sent_after = HappensAs event None hosts sent hosts_after sent_after
AddsEvent watched k event None (Some now) hosts sent hosts_after sent_after = (now.0 ≡ k) × IsWatchedStep watched event × HappensAs event (Some now.1) hosts sent hosts_after sent_after

-- why the last event was rejected; if it was torn, it wasn't
abbrev pub ReportsLast : List (Event Definition) → Option (ℕ × Kept) → Option Rejection → List MemoryHost → List Message → Type 0
ReportsLast events None rejection hosts sent = ReportsWhy (λ w. last_rejected w events) rejection hosts sent
ReportsLast events (Some torn) rejection hosts sent = torn.0 + 1 ≡ length events → rejection ≡ None

pub record HaveRun (watched : Option ℕ) (events : List (Event Definition)) (torn : Option (ℕ × Kept)) (rejection : Option Rejection) (hosts : List MemoryHost) (sent : List Message) (hosts_after : List MemoryHost) (sent_after : List Message) : Type 0 where
  pub fared : HaveFared watched events torn hosts sent hosts_after sent_after
  pub why : ReportsLast events torn rejection hosts sent

-- The deliveries of a pump so far.
pub record HasFaredTo (watched : Option ℕ) (targets : List ℕ) (first : ℕ) (p : PumpProgress) (torn : Option (ℕ × Kept)) (hosts : List MemoryHost) (sent : List Message) (hosts_after : List MemoryHost) (sent_after : List Message) : Type 0 where
  pub fared : HaveFared watched (deliveries targets first p.whole p.some) torn hosts sent hosts_after sent_after
  pub count : length (deliveries targets first p.whole p.some) ≡ p.done
  pub part : p.some < length targets
  pub within : first + p.whole + begun p.some ≤ length sent_after
  pub most : p.done ≤ most_deliveries

-- Where a tape may fail, nothing is known of the farm after a delivery that wasn't made.
abbrev pub Stands : Option ℕ → PumpEnd → Type 0
Stands None end = ⊤
Stands (Some i) end = IsMade end
