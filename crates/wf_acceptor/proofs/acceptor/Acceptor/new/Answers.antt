-- There is no vote yet.
use Rattle.wf_acceptor.proofs.Applied.{acts_for-nothing_stored}
use Rattle.wf_acceptor.proofs.acceptor.Acceptor.new.Goals as goal

pub returns-clause-value : goal.returns-clause-value
returns-clause-value c = rw c.new.ensures

pub returns-clause-acts : goal.returns-clause-acts
returns-clause-acts c = rw c.new.ensures (acts_for-nothing_stored c.args.id)
