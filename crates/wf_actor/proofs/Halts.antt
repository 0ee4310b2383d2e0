-- A node's error tells whether it is halted.
use Rattle.std.proofs.Common.{◌≡◌, Bool, true, false, Option, Some, None, refl, sym, ap}
use Rattle.wf_delivery.specs.NodeInput.{reports_halt}
use Rattle.wf_model.specs.Table.{StepRejection}
use Rattle.wf_node.specs.Fault.{IsWhyNot}
use Rattle.wf_node.specs.declared.fault.NodeFault.{NodeFault}
use Rattle.wf_node.specs.declared.fault.NodeFault.TheVariants as fault

pub halt_reported : (halted : Bool) (why : Option StepRejection) (emitted : Option NodeFault) → (halted ≡ true → emitted ≡ Some fault.Halted) → (halted ≡ false → IsWhyNot why emitted) → reports_halt emitted ≡ halted
halt_reported true why emitted halts runs = ap reports_halt (halts refl)
halt_reported false why None halts runs = refl
halt_reported false why (Some fault.Memory) halts runs = refl
halt_reported false why (Some fault.Busy) halts runs = refl
halt_reported false why (Some fault.SequenceFull) halts runs = refl
halt_reported false why (Some fault.RoundsFull) halts runs = refl
halt_reported false why (Some fault.Halted) halts runs = absurd ((runs refl).1 (sym (runs refl).0))
halt_reported false why (Some fault.TapeFailed) halts runs = refl
halt_reported false why (Some fault.Nothing) halts runs = refl
