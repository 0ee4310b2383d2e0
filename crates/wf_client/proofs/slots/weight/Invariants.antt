-- The sum so far is that of the slots before this one.
use Rattle.std.proofs.Common.{◌≡◌, ◌-◌, ◌^◌, min, take}
use Rattle.wf_client.specs.Client.{weight_in}
use Rattle.wf_client.proofs.slots.weight.Given as goal

abbrev pub invariant-loop-slot : goal.invariant-loop-slot
invariant-loop-slot l = l.sum ≡ min (weight_in (take l.slot-index l.slots)) (2 ^ 64 - 1)
