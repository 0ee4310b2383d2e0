use Rattle.std.proofs.Common.{◌≡◌, ◌≤◌, ◌-◌}
use Rattle.wf_stream.specs.Effects.{ReadsPiece}
use Rattle.wf_stream.proofs.stream.read_onto.Given as goal

-- the bytes counted were taken from the front and appended, and no read has failed
abbrev pub invariant-loop-count : goal.invariant-loop-count
invariant-loop-count g l =
    ReadsPiece l.count (g.S.Source.left l.fn.source) (g.S.Source.left l.source) l.fn.bytes.items l.bytes.items
    × (l.count ≤ l.limit)
    × (g.S.Source.failures l.source ≡ g.S.Source.failures l.fn.source)

abbrev pub decreases-loop-count : goal.decreases-loop-count
decreases-loop-count g l = l.limit - l.count
