-- The nodes so far are fresh.
use Rattle.std.proofs.Common.{◌≡◌, length}
use Rattle.wf_farm.specs.Start.{AreFresh}
use Rattle.wf_farm.proofs.farm_start.Cluster+MemoryTape.new.Given as goal

abbrev pub invariant-loop-number : goal.invariant-loop-number
invariant-loop-number l = AreFresh l.fn.n 0 l.hosts.items × (length l.hosts.items ≡ l.number)
