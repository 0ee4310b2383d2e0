-- The tapes aren't durable, so nothing more is to be shown.
use Rattle.std.proofs.Common.{arith}
use Rattle.wf_farm.proofs.Nodes.{outside_members}
use Rattle.wf_farm.proofs.farm.Farm.open.Goals as goal

pub invariant_of-result : goal.invariant_of-result
invariant_of-result g c = record {
  some = c.requires.some;
  most = c.requires.most;
  members = outside_members g.T.Tape.durable g.T.Tape.images g.T.Tape.never_fails c.requires.outside c.args.hosts.items c.requires.in_turn;
  pumped_within = omega arith;
  reached = λ durable. absurd (c.requires.outside durable);
}
