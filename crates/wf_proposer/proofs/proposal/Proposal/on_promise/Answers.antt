-- By cases: whether the promise is waited for.
use Rattle.std.proofs.Common.{sym, ◌∙◌}
use Rattle.wf_proposer.proofs.Counted.{promise_counted, promise_ignored, promise_sends}
use Rattle.wf_proposer.proofs.proposal.Proposal.on_promise.Goals as goal

pub returns-then-not-is_new_response-clause-transition : goal.returns-then-not-is_new_response-clause-transition
returns-then-not-is_new_response-clause-transition c =
    λ leadership. rw c.ignore.ensures (promise_ignored leadership c.args.self.now c.args.best.now c.args.n c.args.from c.args.ballot c.args.report (rw c.slot.ensures.value at (sym (c.is_new_response.ensures.promise c.args.best.now) ∙ c.if-not-is_new_response.true)))

pub returns-clause-transition : goal.returns-clause-transition
returns-clause-transition c =
    λ leadership.
    promise_counted leadership c.args.self.now c.args.best.now c.args.n c.args.from c.args.ballot c.args.report c.after_promise.result c.with.result (rw c.slot.ensures.value at (sym (c.is_new_response.ensures.promise c.args.best.now) ∙ c.if-not-is_new_response.false)) c.with.ensures c.after_promise.ensures.next

pub returns-clause-memory : goal.returns-clause-memory
returns-clause-memory c =
    λ leadership.
    promise_sends leadership c.args.self.now c.args.best.now c.args.n c.args.from c.args.ballot c.args.report c.after_promise.result c.with.result (rw c.slot.ensures.value at (sym (c.is_new_response.ensures.promise c.args.best.now) ∙ c.if-not-is_new_response.false)) c.with.ensures c.after_promise.ensures.memory
