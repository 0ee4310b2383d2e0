-- The status and the rejection of a publish.
use Rattle.std.proofs.Common.{◌∙◌, length, ap, sym}
use Rattle.wf_learner.specs.History.{History}
use Rattle.wf_replica.proofs.Answered.{publish_answered, status_answered}
use Rattle.wf_replica.proofs.shelf.Shelf.answer.Goals as goal

pub returns-in-Status-clause-answered : goal.returns-in-Status-clause-answered
returns-in-Status-clause-answered c =
    status_answered c.args.request.now c.args.self.now.definitions c.args.outgoing.now.bytes c.write_status.new.outgoing.bytes c.write_status.result c.published.result (sym c.resource.ensures ∙ c.in-Status.is)
    (c.published.ensures.value ∙ ap (λ (h : History). length h.definitions) c.history.ensures) c.write_status.ensures

pub returns-in-Publish-clause-answered : goal.returns-in-Publish-clause-answered
returns-in-Publish-clause-answered c =
    publish_answered c.args.request.now c.args.self.now.definitions c.args.outgoing.now.bytes c.write_response.new.sink.bytes c.write_response.result c.in-Publish.field-0 c.respond_to_error.result (sym c.resource.ensures ∙ c.in-Publish.is) c.respond_to_error.ensures
    c.write_response.ensures.completion
