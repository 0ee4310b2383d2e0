-- Deliveries by a carrier: why one isn't made, and that the carrier is used only where a delivery
-- has an effect.
use Rattle.std.specs.Prelude.{◌≡◌, ◌⊎◌, ℕ, ⊤, false, List}
use Rattle.wf_farm.specs.Common.{Message, Definition, Action, World, Event}
use Rattle.wf_farm.specs.declared.carrier.CarrierFault.{CarrierFault}
use Rattle.wf_farm.specs.declared.carrier.CarrierFault.TheVariants as carrier
use Rattle.wf_farm.specs.declared.fault.FarmFault.{FarmFault}
use Rattle.wf_farm.specs.declared.fault.FarmFault.TheVariants.{Memory, NoNode, Carried}
use Rattle.wf_farm.specs.Allocation.{is_taken, may_allocate}
use Rattle.wf_farm.specs.Cluster.{Refines}
use Rattle.wf_farm.specs.NodeHost.{MemoryHost}

-- the farm's error after this number of deliveries, by why the next one wasn't made
abbrev pub fault_after : CarrierFault → ℕ → FarmFault
fault_after carrier.Memory done = Memory done
fault_after carrier.Lost done = Carried done

-- the error is allocation failure, after whatever number of deliveries
abbrev pub IsMemory : FarmFault → Type 0
IsMemory (Memory done) = ⊤
IsMemory NoNode = ⊥
IsMemory (Carried done) = ⊥

-- why a delivery wasn't made: an allocation failed, or the message wasn't carried
abbrev pub IsUndelivered : FarmFault → Type 0
IsUndelivered fault = (fault ≡ Memory 0) ⊎ (fault ≡ Carried 0)

-- Only a step that node i takes changes this: it is unchanged from a world in which the node
-- doesn't take the step.
unfoldable pub ChangesByStep : {C : Type 0} → ℕ → Action Definition ℕ → List MemoryHost → List Message → C → C → Type 0
ChangesByStep i action hosts sent before after = (w : World Definition) → Refines hosts sent w → is_taken w i action ≡ false → after ≡ before

-- Only an event that may allocate changes this: it is unchanged from a world in which the event has
-- no effect that may allocate.
unfoldable pub ChangesByEvent : {C : Type 0} → Event Definition → List MemoryHost → List Message → C → C → Type 0
ChangesByEvent event hosts sent before after = (w : World Definition) → Refines hosts sent w → may_allocate w event ≡ false → after ≡ before
