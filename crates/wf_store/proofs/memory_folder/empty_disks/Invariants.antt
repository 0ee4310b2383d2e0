-- There are as many disks as were counted.
use Rattle.std.proofs.Common.{◌≡◌, length}
use Rattle.wf_store.proofs.memory_folder.empty_disks.Given as goal

abbrev pub invariant-loop-node : goal.invariant-loop-node
invariant-loop-node l = length l.disks.items ≡ l._node
