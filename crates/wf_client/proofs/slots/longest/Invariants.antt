-- Of the slots before this one, the request that has waited longest was found.
use Rattle.wf_client.specs.Slots.{IsBest}
use Rattle.wf_client.proofs.slots.longest.Given as goal

abbrev pub invariant-loop-index : goal.invariant-loop-index
invariant-loop-index l = IsBest l.slots l.index l.found
