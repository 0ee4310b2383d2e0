-- The record is applied.
use Rattle.wf_acceptor.proofs.Applied.{applied_if_ok}
use Rattle.wf_acceptor.proofs.acceptor.Acceptor.apply.Goals as goal

pub returns-clause-ok : goal.returns-clause-ok
returns-clause-ok c = applied_if_ok c.take_in.result c.args.self.now c.take_in.new.self c.args.entry.now c.requires c.take_in.ensures.ok
