-- The vote that is found is that of the acceptor's model.
use Rattle.std.proofs.Common.{ap, ◌∙◌}
use Rattle.std.specs.FinMap as map
use Rattle.wf_codec.specs.Message.{view_vote}
use Rattle.wf_acceptor.specs.Acceptor.{Acceptor}
use Rattle.wf_acceptor.proofs.acceptor.Acceptor.vote_at.Goals as goal

pub returns : goal.returns
returns c = ap view_vote (c.value_at.ensures ∙ ap (λ (a : Acceptor). map.get a.part.votes c.args.slot) c.self.view_is)
