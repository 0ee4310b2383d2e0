-- The progress of a pump, and how it ended.
use Rattle.std.specs.Prelude.{◌≡◌, ◌<◌, ◌+◌, ℕ, ⊤, Bool, true, false, List, Result, Ok, Err}
use Rattle.wf_farm.specs.Common.{Message}
use Rattle.wf_farm.specs.declared.fault.FarmFault.{FarmFault}
use Rattle.wf_farm.specs.declared.progress.PumpEnd.{PumpEnd}
use Rattle.wf_farm.specs.declared.progress.PumpEnd.TheVariants.{Done, Stopped, Failed}
use Rattle.wf_delivery.specs.declared.progress.PumpProgress.{PumpProgress}
use Rattle.wf_farm.specs.declared.carrier.CarrierFault.TheVariants as carrier
use Rattle.wf_farm.specs.Carriage.{fault_after}
use Rattle.wf_delivery.specs.Progress.{most_deliveries}
use Rattle.wf_farm.specs.Pump.{NextMayAllocate}
use Rattle.wf_farm.specs.NodeHost.{MemoryHost}

-- the end once the limit of deliveries is reached, by whether some are left
abbrev pub last_end : Bool → PumpEnd
last_end true = Stopped
last_end false = Done

-- each delivery was made
abbrev pub IsMade : PumpEnd → Type 0
IsMade Done = ⊤
IsMade Stopped = ⊤
IsMade (Failed fault) = ⊥

-- if a delivery wasn't made, an allocation failed
abbrev pub IsForMemory : PumpEnd → Type 0
IsForMemory Done = ⊤
IsForMemory Stopped = ⊤
IsForMemory (Failed fault) = fault ≡ carrier.Memory

-- nothing is left; the limit of deliveries is reached, and some are left; or one wasn't made before
-- that
abbrev pub IsProgressEnd : ℕ → ℕ → PumpProgress → PumpEnd → Type 0
IsProgressEnd first count p Done = (p.some ≡ 0) × (first + p.whole ≡ count)
IsProgressEnd first count p Stopped = (p.done ≡ most_deliveries) × (first + p.whole < count)
IsProgressEnd first count p (Failed fault) = p.done < most_deliveries

-- Where a delivery wasn't made, it may allocate.
abbrev pub MayEnd : List ℕ → ℕ → PumpProgress → List MemoryHost → List Message → PumpEnd → Type 0
MayEnd targets first p hosts sent Done = Unit {0}
MayEnd targets first p hosts sent Stopped = Unit {0}
MayEnd targets first p hosts sent (Failed fault) = NextMayAllocate targets first p.whole p.some hosts sent

-- the result for each end
abbrev pub outcome : PumpProgress → PumpEnd → Result Bool FarmFault
outcome p Done = Ok false
outcome p Stopped = Ok true
outcome p (Failed fault) = Err (fault_after fault p.done)
