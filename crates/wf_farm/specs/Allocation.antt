-- Which events may allocate: only those that have an effect. So an allocation never fails at an
-- event that is rejected, that is about an absent node or an absent message, or that its node's
-- being stopped or running leaves without effect.
use Rattle.std.specs.Prelude.{◌≡◌, ℕ, Bool, true, false, List, take, slice_get, Option, Some, None, is_some, is_none}
use Rattle.wf_farm.specs.Common.{Message, Definition, definition_eq, Action, World, Event, turn, steps}
use Rattle.wf_model.specs.World as world
use Rattle.wf_farm.specs.declared.fault.FarmFault.{FarmFault}
use Rattle.wf_farm.specs.declared.fault.FarmFault.TheVariants.{Memory, NoNode, Carried}
use Rattle.wf_farm.specs.declared.cluster.NodeHost.TheVariants.{Running, Stopped}
use Rattle.wf_farm.specs.Cluster.{Refines}
use Rattle.wf_farm.specs.NodeHost.{MemoryHost}

-- whether node i takes the step: it runs, the step's message is sent, and the step isn't rejected
abbrev pub is_taken : World Definition → ℕ → Action Definition ℕ → Bool
is_taken w i action = is_some (turn definition_eq w i action)

-- whether a node is there, and is stopped
abbrev pub is_stopped : Option (world.Node Definition) → Bool
is_stopped None = false
is_stopped (Some node) = is_none node.volatile

-- Whether the event may allocate: its step is taken, also if the node crashes after the step's
-- record; or its stopped node restarts. A stop doesn't, nor does a crash before the step's record.
unfoldable pub may_allocate : World Definition → Event Definition → Bool
may_allocate w (world.Act i action) = is_taken w i action
may_allocate w (world.Stop i) = false
may_allocate w (world.Restart i) = is_stopped (slice_get w.nodes i)
may_allocate w (world.Torn i action world.Before) = false
may_allocate w (world.Torn i action world.After) = is_taken w i action

-- in whatever world these are, node i takes the step
unfoldable pub TakesStep : ℕ → Action Definition ℕ → List MemoryHost → List Message → Type 0
TakesStep i action hosts sent = (w : World Definition) → Refines hosts sent w → is_taken w i action ≡ true

-- in whatever world these are, the event may allocate
unfoldable pub MayAllocate : Event Definition → List MemoryHost → List Message → Type 0
MayAllocate event hosts sent = (w : World Definition) → Refines hosts sent w → may_allocate w event ≡ true

-- there is an event, and it may allocate in the world
abbrev pub MayAllocateIn : World Definition → Option (Event Definition) → Type 0
MayAllocateIn w None = ⊥
MayAllocateIn w (Some event) = may_allocate w event ≡ true

-- of these events the one of this number, counted from 0, may allocate in the world after those
-- before it
unfoldable pub MayAllocateAt : ℕ → List (Event Definition) → List MemoryHost → List Message → Type 0
MayAllocateAt done events hosts sent = (w : World Definition) → Refines hosts sent w → MayAllocateIn (steps definition_eq w (take done events)) (slice_get events done)

-- the same for the number that a farm's error reports
abbrev pub AllocatesAt : FarmFault → List (Event Definition) → List MemoryHost → List Message → Type 0
AllocatesAt (Memory done) events hosts sent = MayAllocateAt done events hosts sent
AllocatesAt NoNode events hosts sent = ⊥
AllocatesAt (Carried done) events hosts sent = ⊥

-- the entry has a stopped node
abbrev pub IsStopped : MemoryHost → Type 0
IsStopped (Running node) = ⊥
IsStopped (Stopped tape) = Unit {0}
