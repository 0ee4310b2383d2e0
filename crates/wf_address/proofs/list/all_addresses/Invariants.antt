-- The addresses so far are those of the first words.
use Rattle.std.proofs.Common.{◌≤◌, length, take}
use Rattle.wf_address.specs.Address.{AreAddresses, texts}
use Rattle.wf_address.proofs.list.all_addresses.Given as goal

abbrev pub invariant-loop-index : goal.invariant-loop-index
invariant-loop-index l = AreAddresses (take l.index (texts l.words)) l.found.items × (length l.found.items ≤ l.index)
