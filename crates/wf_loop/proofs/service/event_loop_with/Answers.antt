use Rattle.wf_loop.proofs.service.event_loop_with.Goals as goal
use Rattle.wf_loop.proofs.Readers.{none_replied}
use Rattle.wf_voter.proofs.Earlier.{none_earlier}

pub invariant_of-result : goal.invariant_of-result
invariant_of-result g c = record {
  earlier = none_earlier g.T.Tape c.args.clients.before.items c.args.voter.process c.requires.clients;
  replied = none_replied g.T.Tape c.args.voter.process _ c.requires.readers;
}
