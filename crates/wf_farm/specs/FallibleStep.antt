-- A step that a node in memory takes, whose tape may fail: it is done; or the node crashes within
-- it, and is opened again.
use Rattle.std.specs.Prelude.{◌≡◌, ◌≤◌, ◌<◌, ℕ, Bool, true, false, ⊤, List, length, Option, Some, None, if◌then◌else◌, nat_lt, slice_get}
use Rattle.wf_farm.specs.Common.{Message, Definition, definition_eq, DurableState, Record, Action, Input, most_reports, at_start, World, Event, input_of, rejected_at, turn, Kept, EachIsCut, Node, stored_of, volatile_of, IsTransition, step_rejection_at, transition_of, stored_next, NodeFault, TapeValue, IsImageNow, NeverFails}
use Rattle.wf_model.specs.Kept.{view as view_kept}
use Rattle.wf_model.specs.Message as model
use Rattle.wf_model.specs.World as world
use Rattle.wf_model.specs.declared.action.Kept.TheVariants as kept
use Rattle.wf_journal.specs.Records.{AreRecords}
use Rattle.wf_node.specs.Fault.{IsWhyNot}
use Rattle.wf_farm.specs.declared.fate.Fate.{Fate}
use Rattle.wf_farm.specs.declared.fate.Fate.TheVariants as fate
use Rattle.wf_farm.specs.declared.cluster.NodeHost.TheVariants.{Running, Stopped}
use Rattle.wf_farm.specs.declared.rejection.Rejection.{Rejection}
use Rattle.wf_farm.specs.Cluster.{Refines, input_in}
use Rattle.wf_farm.specs.Fault.{reported}
use Rattle.wf_farm.specs.NodeHost.{MemoryHost, IsHostOf, HostStays}

-- ---- whether a node takes a step

-- why a node that runs would reject an action's step: the error of the table's rejection, None if
-- there is none
unfoldable pub ReportsWhyNot : {T : Type 0} → Node T → Action Definition ℕ → Option NodeFault → Type 0
ReportsWhyNot node action why = (sent : List (model.Message Definition)) (input : Input Definition) → input_of sent action ≡ Some input → IsWhyNot (step_rejection_at node input) why

-- Node i runs, and the table doesn't reject its step with this input.
pub record GoesThere (i : ℕ) (input : Input Definition) (hosts : List MemoryHost) : Type 0 where
  pub node : Node TapeValue
  pub at : slice_get hosts i ≡ Some (Running node)
  pub member : IsHostOf (length hosts) i (Running node)
  pub goes : step_rejection_at node input ≡ None

-- So node i takes the action's step.
pub record TakesItsStep (i : ℕ) (action : Action Definition ℕ) (hosts : List MemoryHost) (sent : List Message) : Type 0 where
  pub input : Input Definition
  pub given : input_in sent action ≡ Some input
  pub there : GoesThere i input hosts

-- In whatever world these are, node i doesn't take it, for this rejection, if it is one.
unfoldable pub IsIdle : ℕ → Action Definition ℕ → Option Rejection → List MemoryHost → List Message → Type 0
IsIdle i action why hosts sent = (w : World Definition) → Refines hosts sent w → (turn definition_eq w i action ≡ None) × (why ≡ reported (rejected_at w i action))

-- the step as an event, by the crash within it
abbrev pub acted : Option Kept → ℕ → Action Definition ℕ → Event Definition
acted None i action = world.Act i action
acted (Some kept) i action = world.Torn i action (view_kept kept)

-- the step as an event, by whether its messages are sent; else the node stops after it
abbrev pub received_as : Bool → ℕ → Action Definition ℕ → Event Definition
received_as true i action = world.Act i action
received_as false i action = world.Torn i action world.After

-- ---- what becomes of it

-- what a crash keeps of two durable states
abbrev pub stored_by : world.Kept → DurableState Definition → DurableState Definition → DurableState Definition
stored_by world.Before before after = before
stored_by world.After before after = after

-- what a crash kept, by the number of bytes before the step and now: its record, if the tape is
-- longer
abbrev pub kept_beyond : ℕ → ℕ → Kept
kept_beyond long now = if nat_lt long now then kept.After else kept.Before

-- A tape after a step that failed: before it the tape had these records alone, as many bytes long,
-- and each image is cut within the step's record or behind it.
pub record IsCutTape (long : ℕ) (entry : Option (Record Definition)) (before after : DurableState Definition) (left : TapeValue) : Type 0 where
  pub content : List ℕ
  pub records : List (Record Definition)
  pub are_records : AreRecords content records
  pub is_long : length content ≡ long
  pub cut : EachIsCut entry before after (λ image. image ≡ content) (IsImageNow left)

-- The node crashed and was opened again, with what was kept of these two durable states, unless an
-- allocation failed.
abbrev pub IsTornTo : DurableState Definition → DurableState Definition → Fate → MemoryHost → Type 0
IsTornTo before after (fate.Torn kept) (Running node) = (stored_of node ≡ stored_by (view_kept kept) before after) × (volatile_of node ≡ at_start)
IsTornTo before after (fate.Torn kept) (Stopped left) = ⊥
IsTornTo before after (fate.Done outputs) host = ⊥
IsTornTo before after fate.Lost host = ⊤

-- The node in the entry takes a step with this input.
abbrev pub Goes : Input Definition → MemoryHost → Type 0
Goes input (Running node) = (node.halted ≡ false) × (node.n ≤ 64) × (node.id < node.n) × (step_rejection_at node input ≡ None)
Goes input (Stopped tape) = ⊥

-- What became of the step: it was done; or the node crashed within it, since its tape could fail,
-- and was opened again; or an allocation failed.
abbrev pub Fares : Input Definition → Fate → MemoryHost → MemoryHost → Type 0
Fares input what (Stopped tape) after = ⊥
Fares input (fate.Done outputs) (Running node) after = (next : Node TapeValue) × (after ≡ Running next) × IsTransition node (transition_of node input) outputs.items next
Fares input (fate.Torn kept) (Running node) after = (NeverFails node.tape → ⊥) × IsTornTo (stored_of node) (stored_next node input) (fate.Torn kept) after
Fares input fate.Lost (Running node) after = NeverFails node.tape → HostStays (Running node) after

-- it sends no more messages than a step may
abbrev pub IsFew : Fate → Type 0
IsFew (fate.Done outputs) = length outputs.items ≤ most_reports
IsFew (fate.Torn kept) = ⊤
IsFew fate.Lost = ⊤
