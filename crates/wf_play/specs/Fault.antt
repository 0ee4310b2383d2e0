-- Why a run of a script ends before its end.
use Rattle.std.specs.Prelude.{◌≡◌, ℕ, ⊤, true, false, Option, Some, List, Result, Ok, Err}
use Rattle.std.specs.Io.KnownBytes.{Keeps}
use Rattle.wf_stream.specs.Effects.{EndsByFailing, Rises}
use Rattle.wf_stream.specs.declared.stream.Sink.{Ghosts as Sink}
use Rattle.wf_script.specs.Fault.{IsScriptMemory, is_memory}
use Rattle.wf_script.specs.Order.{Order}
use Rattle.wf_script.specs.Script.{Numbered}
use Rattle.wf_script.specs.declared.fault.ScriptFault.TheVariants as script
use Rattle.wf_farm.specs.Farm.{MemoryFarm}
use Rattle.wf_farm.specs.declared.carrier.CarrierFault.{CarrierFault}
use Rattle.wf_farm.specs.declared.carrier.CarrierFault.TheVariants as carrier
use Rattle.wf_play.specs.OrderEffect.{fault_at, may_use, may_use_at}
use Rattle.wf_play.specs.declared.fault.PlayFault.{PlayFault}
use Rattle.wf_play.specs.declared.fault.PlayFault.TheVariants as play

-- why an input can't be read: an allocation or a read failed
abbrev pub IsPlayInputFault : PlayFault → Type 0
IsPlayInputFault (play.Script fault) = IsScriptMemory fault
IsPlayInputFault play.Read = ⊤
IsPlayInputFault play.Write = ⊥
IsPlayInputFault play.Wire = ⊥

-- why a script that was read isn't played to its end: an allocation, a write or the carrying of a
-- message failed
abbrev pub IsPlayingFault : PlayFault → Type 0
IsPlayingFault (play.Script fault) = IsScriptMemory fault
IsPlayingFault play.Read = ⊥
IsPlayingFault play.Write = ⊤
IsPlayingFault play.Wire = ⊤

-- Nothing is written where the input isn't a script, or can't be read.
abbrev pub KeepsQuiet : Option (List ℕ) → Option (List ℕ) → PlayFault → Type 0
KeepsQuiet old new (play.Script fault) = is_memory fault ≡ false → Keeps old new
KeepsQuiet old new play.Read = Keeps old new
KeepsQuiet old new play.Write = ⊤
KeepsQuiet old new play.Wire = ⊤

-- A read error comes only where a read has failed, and a run whose reads have failed ends with that
-- error or an allocation failure.
abbrev pub CountsReads : {T : Type 0} → Result T PlayFault → ℕ → ℕ → Type 0
CountsReads (Ok x) old new = new ≡ old
CountsReads (Err (play.Script fault)) old new = is_memory fault ≡ false → new ≡ old
CountsReads (Err play.Read) old new = Rises old new
CountsReads (Err play.Write) old new = new ≡ old
CountsReads (Err play.Wire) old new = new ≡ old

-- A write error comes exactly where a write has failed.
abbrev pub CountsWrites : {T : Type 0} → Result T PlayFault → ℕ → ℕ → Type 0
CountsWrites (Err play.Write) old new = Rises old new
CountsWrites _ old new = new ≡ old

-- How the writing ended, of any writer: a failed write is the last call, and some bytes were
-- written without a failure before it.
abbrev pub EndsWriting : {K : Type 0} → Sink K → K → K → PlayFault → Type 0
EndsWriting sinks old new (play.Script fault) = ⊤
EndsWriting sinks old new play.Read = ⊤
EndsWriting sinks old new play.Write = (bytes : List ℕ) × EndsByFailing sinks.written sinks.failures sinks.fails bytes old new
EndsWriting sinks old new play.Wire = ⊤

-- the error of an order, by why it isn't performed to its end: an allocation failed, at its line,
-- or a message wasn't carried
abbrev pub order_fault : CarrierFault → ℕ → PlayFault
order_fault carrier.Memory line = play.Script (script.Memory line)
order_fault carrier.Lost line = play.Wire

-- Why an order isn't performed to its end: an allocation failed, and the error is that of its line;
-- or a message that it carries wasn't carried.
abbrev pub IsOrderFault : Option Numbered → MemoryFarm → PlayFault → Type 0
IsOrderFault numbered before (play.Script fault) = fault_at numbered ≡ Some fault
IsOrderFault numbered before play.Wire = may_use_at numbered before ≡ true
IsOrderFault numbered before play.Read = ⊥
IsOrderFault numbered before play.Write = ⊥

-- for the crate's own contracts: only what may use the carrier loses a message
abbrev pub LosesOnlyOf : Order → MemoryFarm → CarrierFault → Type 0
LosesOnlyOf order before fault = fault ≡ carrier.Lost → may_use order before ≡ true

-- no message was lost on its way
abbrev pub LosesNone : PlayFault → Type 0
LosesNone (play.Script fault) = ⊤
LosesNone play.Read = ⊤
LosesNone play.Write = ⊤
LosesNone play.Wire = ⊥
