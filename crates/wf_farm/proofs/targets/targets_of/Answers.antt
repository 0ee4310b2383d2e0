-- The names sorted, without duplicates.
use Rattle.std.proofs.Common.{◌<◌, length, arith}
use Rattle.wf_farm.proofs.Listed.{some_sorted, sorted_targets}
use Rattle.wf_farm.proofs.targets.targets_of.Goals as goal

some_named : (c : goal.After-dedup) → 0 < length c.args.names.now
some_named c = grind (arith, c.is_empty.ensures, c.if-is_empty.false)

pub returns-clause-targets : goal.returns-clause-targets
returns-clause-targets c =
    sorted_targets c.args.n c.args.names.now c.in_ok-targets.targets.items c.sort_unstable.new.self.items c.dedup.new.self.items (some_named c) c.in_ok-targets.ensures.items c.sort_unstable.ensures.permutation c.sort_unstable.ensures.sorted c.dedup.ensures.filtered

pub returns-clause-some : goal.returns-clause-some
returns-clause-some c = some_sorted c.args.n c.args.names.now c.dedup.new.self.items (some_named c) (returns-clause-targets c)
