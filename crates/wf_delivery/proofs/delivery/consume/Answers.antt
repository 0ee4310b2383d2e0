-- The messages returned are those sent; after an allocation failure the input is lost.
use Rattle.std.proofs.Common.{[], ◌∙◌}
use Rattle.wf_delivery.proofs.Common.{is_memory}
use Rattle.wf_node.specs.Input.{view}
use Rattle.wf_delivery.proofs.Deliveries.{none_few, takes_as}
use Rattle.wf_delivery.proofs.delivery.consume.Goals as goal

pub returns-in-Ok-clause-takes : goal.returns-in-Ok-clause-takes
returns-in-Ok-clause-takes g c = c.in-Ok.ensures.answers

pub returns-in-Err-clause-takes : goal.returns-in-Err-clause-takes
returns-in-Err-clause-takes g c =
    takes_as g.T.Tape (view c.args.input) c.args.node.now c.step.new.node (is_memory c.in-Err.fault) c.quiet.result.lost [] c.quiet.result.messages.items
    (c.quiet.ensures.lost ∙ c.wants_memory.ensures) c.quiet.ensures.none c.in-Err.ensures.takes

pub returns-in-Err-clause-few : goal.returns-in-Err-clause-few
returns-in-Err-clause-few g c = none_few c.quiet.result.messages.items c.quiet.ensures.none
