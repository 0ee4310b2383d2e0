-- A delivery by a carrier: one event, or none.
use Rattle.std.proofs.Common.{◌≡◌, Bool, List, [], Result, Ok, Err, IfErr, IsOk, refl, sym, ap, subst, inl, inr}
use Rattle.wf_farm.proofs.Common.{false≢true, Message, steps, CarrierFault, FarmFault, IsMemory, IsUndelivered, fault_after, Moves, StayShown, PumpEnd, Done, Failed, PumpProgress, IsAtOnce, IsForMemory, outcome, MemoryHost}
use Rattle.wf_farm.specs.declared.carrier.CarrierFault.TheVariants as carrier
use Rattle.wf_farm.specs.declared.progress.PumpEnd.TheVariants.{Stopped}

-- what is Ok has no error
pub no_error : {A E : Type 0} (P : E → Type 0) (result : Result A E) → IsOk result → IfErr result P
no_error P (Ok x) is = tt
no_error P (Err e) is = absurd (false≢true is)

pub undelivered : (fault : CarrierFault) → IsUndelivered (fault_after fault 0)
undelivered carrier.Memory = inl refl
undelivered carrier.Lost = inr refl

pub at_once : (fault : CarrierFault) → fault ≡ carrier.Memory → IsAtOnce (fault_after fault 0)
at_once fault is = ap (λ f. fault_after f 0) is

-- a pump whose deliveries failed for memory alone
memory_at : (p : PumpProgress) (end : PumpEnd) → IsForMemory end → IfErr (outcome p end) IsMemory
memory_at p Done is = tt
memory_at p Stopped is = tt
memory_at p (Failed fault) is = subst (λ f. IsMemory (fault_after f p.done)) (sym is) tt

pub pump_for_memory : (p : PumpProgress) (end : PumpEnd) (result : Result Bool FarmFault) → result ≡ outcome p end → IsForMemory end → IfErr result IsMemory
pump_for_memory p end result reported is = subst (λ r. IfErr r IsMemory) (sym reported) (memory_at p end is)

-- what wasn't delivered is no event
pub stays_moves : (hosts after : List MemoryHost) (sent more : List Message) → StayShown hosts sent after more → Moves [] hosts sent after more
unfolding Moves StayShown steps
stays_moves hosts after sent more stays = stays
