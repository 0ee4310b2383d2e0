-- The node has asked so far, and no delivery was lost. Each question brings it on, or it is halted.
use Rattle.std.proofs.Common.{false}
use Rattle.wf_catch_up.proofs.Common.{HaveAsked, OneChanges, lacks, KeepEntries, nodes_of}
use Rattle.wf_catch_up.proofs.questions.ask_while_behind.Given as goal

abbrev pub invariant-loop-alloc : goal.invariant-loop-alloc
invariant-loop-alloc g l = record {
  asked : HaveAsked g.T.Tape l.fn.asked (nodes_of l.initial.hosts) false (nodes_of l.hosts);
  one : OneChanges l.fn.asked l.fn.requester (nodes_of l.initial.hosts) (nodes_of l.hosts);
  entries : KeepEntries g.T.Tape l.initial.hosts l.hosts;
}

abbrev pub decreases-loop-alloc : goal.decreases-loop-alloc
decreases-loop-alloc g l = lacks (nodes_of l.hosts) l.fn.asked l.fn.requester
