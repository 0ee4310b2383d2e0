-- The result of a farm's pump.
use Rattle.std.proofs.Common.{◌≡◌, ℕ, ◌+◌, ◌≤◌, Bool, List, length, Option, None, Result, IfOk, IfErr, inr, sym, subst, ◌∙◌}
use Rattle.wf_farm.specs.declared.carrier.CarrierFault.TheVariants as carrier
use Rattle.wf_farm.proofs.Common.{FarmFault, PumpEnd, Done, Failed, PumpProgress, MemoryFarm, size, Kept, HasFaredTo, IsProgressEnd, MayEnd, outcome, AreTargets, begun, deliveries, Pumps, IsPumped, IsPumpedPart, most_deliveries}
use Rattle.wf_farm.specs.declared.progress.PumpEnd.TheVariants.{Stopped}
use Rattle.wf_farm.proofs.TornRuns.{whole_moves}

module _ (names : List ℕ) (before after : MemoryFarm) (n : ℕ) (targets items : List ℕ) (p : PumpProgress) (many : n ≡ size before) (same : targets ≡ items) (are : AreTargets n names items)
    (watched : Option ℕ) (none : watched ≡ None) (torn : Option (ℕ × Kept)) (come : HasFaredTo watched targets before.pumped p torn before.hosts before.sent after.hosts after.sent) (pumped : after.pumped ≡ before.pumped + p.whole + begun p.some) where
  abbrev a_pump : Pumps names before after
  a_pump = record {
    targets = targets;
    are_targets = subst (λ k. AreTargets k names targets) many (subst (AreTargets n names) (sym same) are);
    whole = p.whole;
    some = p.some;
    part = come.part;
    runs = whole_moves watched (deliveries targets before.pumped p.whole p.some) torn before.hosts after.hosts before.sent after.sent none come.fared;
    pumped = pumped;
    within = subst (λ k. k ≤ length after.sent) (sym pumped) come.within;
  }

  done_end : (end : PumpEnd) → IsProgressEnd before.pumped (length after.sent) p end → IfOk (outcome p end) (IsPumped names before after)
  done_end Done end = (a_pump, (subst (λ k. k ≤ most_deliveries) (sym come.count) come.most, end.0, end.1))
  done_end Stopped end = (a_pump, (come.count ∙ end.0, end.1))
  done_end (Failed fault) end = tt

  part_end : (end : PumpEnd) → IsProgressEnd before.pumped (length after.sent) p end → MayEnd targets before.pumped p before.hosts before.sent end → IfErr (outcome p end) (IsPumpedPart names before after)
  part_end Done end may = tt
  part_end Stopped end may = tt
  part_end (Failed carrier.Memory) end may = inr (a_pump, come.count, end, may)
  part_end (Failed carrier.Lost) end may = (a_pump, come.count, end, may)

  module _ (end : PumpEnd) (is : IsProgressEnd before.pumped (length after.sent) p end) (result : Result Bool FarmFault) (reported : result ≡ outcome p end) where
    pub pump_done : IfOk result (IsPumped names before after)
    pump_done = subst (λ r. IfOk r (IsPumped names before after)) (sym reported) (done_end end is)

    pub pump_part : MayEnd targets before.pumped p before.hosts before.sent end → IfErr result (IsPumpedPart names before after)
    pump_part may = subst (λ r. IfErr r (IsPumpedPart names before after)) (sym reported) (part_end end is may)
