-- By cases: the ballot compared with the promise.
use Rattle.std.proofs.Common.{None, sym, ◌∙◌}
use Rattle.wf_acceptor.specs.AcceptorAnswer.{prepare_transition}
use Rattle.wf_acceptor.specs.Prepared.{nack_of, promising, replying}
use Rattle.wf_acceptor.proofs.Answered.{answers_as, answers_if_ok, stores_if_err, promising_answers, promising_stores, step_rejection_answers, silence_answers}
use Rattle.wf_acceptor.proofs.acceptor.Acceptor.on_prepare.Goals as goal

pub returns-then-is_above-clause-transition : goal.returns-then-is_above-clause-transition
returns-then-is_above-clause-transition c =
    answers_if_ok c.args.self.now.part (prepare_transition c.args.self.now.part c.args.slot c.args.ballot) (promising c.args.self.now.part c.args.slot c.args.ballot)
    c.promise_to.result c.promise_to.ensures.answer
    (promising_answers c.args.self.now.part c.args.slot c.args.ballot c.requires (sym c.is_above.ensures ∙ c.if-is_above.true))

pub returns-then-is_above-clause-memory : goal.returns-then-is_above-clause-memory
returns-then-is_above-clause-memory c =
    stores_if_err c.promise_to.result _
    (promising_stores c.args.self.now.part c.args.slot c.args.ballot c.requires (sym c.is_above.ensures ∙ c.if-is_above.true))

pub returns-then-is_rejected-clause-transition : goal.returns-then-is_rejected-clause-transition
returns-then-is_rejected-clause-transition c =
    answers_as c.args.self.now.part (prepare_transition c.args.self.now.part c.args.slot c.args.ballot) c.reject.result
    (replying (nack_of c.args.self.now.part c.args.slot c.args.ballot)) c.reject.ensures.answer
    (step_rejection_answers c.args.self.now.part c.args.slot c.args.ballot c.requires (sym c.is_above.ensures ∙ c.if-is_above.false)
    (sym c.is_rejected.ensures ∙ c.if-is_rejected.true))

pub returns-clause-transition : goal.returns-clause-transition
returns-clause-transition c =
    answers_as c.args.self.now.part (prepare_transition c.args.self.now.part c.args.slot c.args.ballot) c.only_reply.result (replying None) c.only_reply.ensures.answer
    (silence_answers c.args.self.now.part c.args.slot c.args.ballot c.requires (sym c.is_above.ensures ∙ c.if-is_above.false)
    (sym c.is_rejected.ensures ∙ c.if-is_rejected.false))
