-- The first nodes, this many, have caught up with the one that is asked, or a delivery was lost.
use Rattle.wf_catch_up.proofs.Common.{FirstEndUp, HasMost, HaveAsked, KeepEntries, nodes_of}
use Rattle.wf_catch_up.proofs.questions.ask_each.Given as goal

abbrev pub invariant-loop-requester : goal.invariant-loop-requester
invariant-loop-requester g l = record {
  asked : HaveAsked g.T.Tape l.fn.asked (nodes_of l.initial.hosts) l.lost (nodes_of l.hosts);
  most : HasMost (nodes_of l.hosts) l.fn.asked;
  ends : FirstEndUp l.fn.asked l.requester l.lost (nodes_of l.hosts);
  entries : KeepEntries g.T.Tape l.initial.hosts l.hosts;
}
