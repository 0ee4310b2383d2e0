-- The deliveries so far.
use Rattle.std.proofs.Common.{◌-◌, length}
use Rattle.wf_delivery.proofs.Common.{ComeSoFar, AreChanged, AreCounted}
use Rattle.wf_delivery.proofs.delivery.deliver_rounds.Given as goal

abbrev pub invariant-loop-progress : goal.invariant-loop-progress
invariant-loop-progress g l =
    ComeSoFar g.T.Tape (g.E.Recipient.nodes l.initial.entries) l.initial.sent.items l.progress l.lost (g.E.Recipient.nodes l.entries) l.sent.items
    × AreCounted (length l.initial.entries) 0 l.progress l.lost (length l.sent.items)
    × AreChanged g.E.Recipient.keeps l.initial.entries l.entries

abbrev pub decreases-loop-progress : goal.decreases-loop-progress
decreases-loop-progress g l = 100000 - l.progress.done
