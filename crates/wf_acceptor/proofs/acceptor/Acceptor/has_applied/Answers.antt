-- The part is the other one's with the record, and so what the record leaves.
use Rattle.wf_acceptor.proofs.Applied.{applied_where_equal}
use Rattle.wf_acceptor.proofs.acceptor.Acceptor.has_applied.Goals as goal

pub returns : goal.returns
returns c = λ equal. applied_where_equal c.args.other.now.part c.args.self.now.part c.args.entry.now c.requires (c.is_with.ensures equal)
