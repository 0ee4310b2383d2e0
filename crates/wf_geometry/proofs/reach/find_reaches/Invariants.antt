use Rattle.std.proofs.Common.{take}
use Rattle.wf_geometry.proofs.ReachLemmas.{IsReaches}
use Rattle.wf_geometry.proofs.reach.find_reaches.Given as goal

abbrev pub invariant-loop-edge : goal.invariant-loop-edge
invariant-loop-edge l = IsReaches l.row l.width (take l.edge-index l.edges) l.reaches.items
