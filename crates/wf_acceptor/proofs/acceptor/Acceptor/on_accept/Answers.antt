-- By cases: the ballot compared with the promise, then with the vote.
use Rattle.std.proofs.Common.{Some, sym, ◌∙◌, ap}
use Rattle.wf_codec.specs.declared.message.Message.TheVariants as message
use Rattle.wf_acceptor.specs.Acceptor.{Acceptor}
use Rattle.wf_acceptor.specs.AcceptorAnswer.{accept_transition}
use Rattle.wf_acceptor.specs.Prepared.{nack_of, replying, voting}
use Rattle.wf_acceptor.proofs.Answered.{answers_as, answers_if_ok, stores_if_err, nack_answers, again_answers, voting_answers, voting_stores}
use Rattle.wf_acceptor.proofs.acceptor.Acceptor.on_accept.Goals as goal

pub returns-then-is_rejected-clause-transition : goal.returns-then-is_rejected-clause-transition
returns-then-is_rejected-clause-transition c =
    answers_as c.args.self.now.part (accept_transition c.args.self.now.part c.args.slot c.args.ballot c.args.canon) c.reject.result
    (replying (nack_of c.args.self.now.part c.args.slot c.args.ballot)) c.reject.ensures.answer
    (nack_answers c.args.self.now.part c.args.slot c.args.ballot c.args.canon c.requires (sym c.is_rejected.ensures ∙ c.if-is_rejected.true))

pub returns-then-is_voted_at-clause-transition : goal.returns-then-is_voted_at-clause-transition
returns-then-is_voted_at-clause-transition c =
    answers_as c.args.self.now.part (accept_transition c.args.self.now.part c.args.slot c.args.ballot c.args.canon) c.only_reply.result
    (replying (Some (message.Accepted c.args.self.now.part.id c.args.slot c.args.ballot)))
    (c.only_reply.ensures.answer ∙ ap (λ (a : Acceptor). replying (Some (message.Accepted a.part.id c.args.slot c.args.ballot))) c.self.view_is)
    (again_answers c.args.self.now.part c.args.slot c.args.ballot c.args.canon c.requires (sym c.is_rejected.ensures ∙ c.if-is_rejected.false)
    (sym c.is_voted_at.ensures ∙ c.if-is_voted_at.true))

pub returns-clause-transition : goal.returns-clause-transition
returns-clause-transition c =
    answers_if_ok c.args.self.now.part (accept_transition c.args.self.now.part c.args.slot c.args.ballot c.args.canon)
    (voting c.args.self.now.part c.args.slot c.args.ballot c.args.canon) c.vote.result c.vote.ensures.answer
    (voting_answers c.args.self.now.part c.args.slot c.args.ballot c.args.canon c.requires (sym c.is_rejected.ensures ∙ c.if-is_rejected.false)
    (sym c.is_voted_at.ensures ∙ c.if-is_voted_at.false))

pub returns-clause-memory : goal.returns-clause-memory
returns-clause-memory c =
    stores_if_err c.vote.result _
    (voting_stores c.args.self.now.part c.args.slot c.args.ballot c.args.canon c.requires (sym c.is_rejected.ensures ∙ c.if-is_rejected.false)
    (sym c.is_voted_at.ensures ∙ c.if-is_voted_at.false))
