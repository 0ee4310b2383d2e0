use Rattle.std.proofs.Common.{◌≡◌, ◌-◌}
use Rattle.wf_block.specs.Steps.{fill}
use Rattle.wf_block.proofs.block.fill_keywords.Given as goal

-- filling from the remaining tokens and the slots so far gives the same as filling from the start
abbrev pub invariant-loop : goal.invariant-loop
invariant-loop g l =
    (fill (g.S.Slots.put (g.S.Slots.within l.initial.slots)) (l.end - l.counter) (g.S.Slots.settings l.slots) l.parser
    ≡ fill (g.S.Slots.put (g.S.Slots.within l.initial.slots)) l.end (g.S.Slots.settings l.initial.slots) l.initial.parser)
    × (g.S.Slots.within l.slots ≡ g.S.Slots.within l.initial.slots)
    × g.S.Slots.Holds l.slots
