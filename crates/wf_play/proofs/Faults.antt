-- The errors of a play: which tells of a failed write, and which of an order.
use Rattle.std.proofs.Common.{◌≡◌, ℕ, List, true, refl, sym, subst}
use Rattle.std.specs.Prelude.{Option, Some, Err}
use Rattle.wf_farm.specs.Farm.{MemoryFarm}
use Rattle.wf_farm.specs.declared.carrier.CarrierFault.{CarrierFault}
use Rattle.wf_farm.specs.declared.carrier.CarrierFault.TheVariants as carrier
use Rattle.wf_script.specs.Script.{Numbered}
use Rattle.wf_play.proofs.OrderEffect.{fault_is_memory, fault_there}
use Rattle.wf_play.specs.Fault.{CountsWrites, IsOrderFault, IsPlayingFault, LosesNone, order_fault}
use Rattle.wf_play.specs.OrderEffect.{may_use, may_use_at}
use Rattle.wf_play.specs.ScriptRun.{IsStepRejectionOf}
use Rattle.wf_play.specs.declared.fault.PlayFault.{PlayFault}
use Rattle.wf_play.specs.declared.fault.PlayFault.TheVariants as play

-- before the script was read no write fails
pub no_writes_yet : (input : Option (List ℕ)) (fault : PlayFault) (count : ℕ) → IsStepRejectionOf input fault → CountsWrites {T = Unit {0}} (Err fault) count count
no_writes_yet input (play.Script fault) count why = refl
no_writes_yet input play.Read count why = refl
no_writes_yet input play.Write count why = absurd why
no_writes_yet input play.Wire count why = absurd why

-- and no message is carried
pub none_lost_yet : (input : Option (List ℕ)) (fault : PlayFault) → IsStepRejectionOf input fault → LosesNone fault
none_lost_yet input (play.Script fault) why = tt
none_lost_yet input play.Read why = tt
none_lost_yet input play.Write why = absurd why
none_lost_yet input play.Wire why = absurd why

-- an order's error, by its cause
pub order_fault_there : (there : Option Numbered) (n : Numbered) (before : MemoryFarm) (fault : CarrierFault) → Some n ≡ there → (fault ≡ carrier.Lost → may_use n.order before ≡ true)
    → IsOrderFault there before (order_fault fault n.line)
order_fault_there there n before carrier.Memory is lost = fault_there there n is
order_fault_there there n before carrier.Lost is lost = subst (λ o. may_use_at o before ≡ true) is (lost refl)

pub none_lost : (fault : CarrierFault) (line : ℕ) → fault ≡ carrier.Memory → LosesNone (order_fault fault line)
none_lost fault line is = subst (λ f. LosesNone (order_fault f line)) (sym is) tt

-- it ends a play
pub order_fault_ends : (there : Option Numbered) (before : MemoryFarm) (fault : PlayFault) → IsOrderFault there before fault → IsPlayingFault fault
order_fault_ends there before (play.Script fault) why = fault_is_memory there fault why
order_fault_ends there before play.Wire why = tt
order_fault_ends there before play.Read why = absurd why
order_fault_ends there before play.Write why = absurd why

-- and isn't about a write
pub order_writes_none : (there : Option Numbered) (before : MemoryFarm) (fault : PlayFault) (old new : ℕ) → IsOrderFault there before fault → new ≡ old → CountsWrites {T = Unit {0}} (Err fault) old new
order_writes_none there before (play.Script fault) old new why same = same
order_writes_none there before play.Wire old new why same = same
order_writes_none there before play.Read old new why same = same
order_writes_none there before play.Write old new why same = absurd why
