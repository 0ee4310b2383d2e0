-- What an order does, by its index among the orders of its script.
use Rattle.std.proofs.Common.{◌≡◌, ℕ, Bool, false, List, [], ◌∷◌, sym, subst, Option, Some, None, refl}
use Rattle.std.specs.Prelude.{Result, Ok, Err, OnOk}
use Rattle.wf_def.specs.Definition.{Definition}
use Rattle.wf_model.specs.World.{Event}
use Rattle.wf_farm.specs.Farm.{MemoryFarm}
use Rattle.wf_farm.specs.Pump.{IsPumped}
use Rattle.std.proofs.lemmas.Option.{same_Some}
use Rattle.wf_script.specs.declared.fault.ScriptFault.{ScriptFault}
use Rattle.wf_script.specs.declared.fault.ScriptFault.TheVariants.{Memory}
use Rattle.wf_script.specs.Fault.{IsScriptMemory}
use Rattle.wf_play.specs.OrderEffect.{ArePumped, HaveHappened, HappensIf, Performs, PerformsAt, fault_at, may_use, may_use_at}
use Rattle.wf_script.specs.Script.{Numbered}

-- where there is an order
pub performed_at : (maps : List Definition) (there : Option Numbered) (n : Numbered) (before after : MemoryFarm) → Some n ≡ there → Performs maps n.order before after → PerformsAt maps there before after
unfolding PerformsAt
performed_at maps there n before after is does = subst (λ o. PerformsAt maps o before after) is does

-- where there is none
pub nothing_performed : (maps : List Definition) (there : Option Numbered) (before after : MemoryFarm) → None ≡ there → after ≡ before → PerformsAt maps there before after
unfolding PerformsAt
nothing_performed maps there before after is same = subst (λ o. PerformsAt maps o before after) is same

-- its error has its line
pub fault_there : (there : Option Numbered) (n : Numbered) → Some n ≡ there → fault_at there ≡ Some (Memory n.line)
fault_there there n is = subst (λ o. fault_at o ≡ Some (Memory n.line)) is refl

-- the event that an order is
pub happened : (there : Option (Event Definition)) (event : Event Definition) (before after : MemoryFarm) → Some event ≡ there → HaveHappened (event ∷ []) before after → HappensIf there before after
happened there event before after is does = subst (λ o. HappensIf o before after) is does

-- nothing, where it is none
pub unhappened : (there : Option (Event Definition)) (before after : MemoryFarm) → None ≡ there → after ≡ before → HappensIf there before after
unhappened there before after is same = subst (λ o. HappensIf o before after) is same

-- a pump, whether it stopped early or not
pub pump_performed : (names : List ℕ) (before after : MemoryFarm) (stopped : Bool) → IsPumped names before after stopped → ArePumped names before after
pump_performed names before after stopped done = record { stopped = stopped; pumped = done }

-- what is done is done where that is reported
pub on_ok : {T E P : Type 0} → (result : Result T E) → P → OnOk result P
on_ok (Ok x) done = done
on_ok (Err e) done = tt

-- an order's error is allocation failure
pub fault_is_memory : (there : Option Numbered) (fault : ScriptFault) → fault_at there ≡ Some fault → IsScriptMemory fault
fault_is_memory None fault is = absurd (cc)
fault_is_memory (Some n) fault is = subst IsScriptMemory (same_Some (Memory n.line) fault is) refl

-- whether the order at an index may use the carrier
pub used_there : (there : Option Numbered) (n : Numbered) (before : MemoryFarm) → Some n ≡ there → may_use_at there before ≡ false → may_use n.order before ≡ false
used_there there n before is unused = subst (λ o. may_use_at o before ≡ false) (sym is) unused
