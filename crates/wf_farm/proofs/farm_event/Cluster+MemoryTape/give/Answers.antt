-- The step with the action's input.
use Rattle.std.proofs.Common.{is_some, sym, ap, subst, ◌∙◌}
use Rattle.wf_farm.proofs.Common.{same_Some, numbered, GoesThere}
use Rattle.wf_node.specs.Input.{view}
use Rattle.wf_farm.proofs.Events.{nothing_stays}
use Rattle.wf_farm.proofs.farm_event.Cluster+MemoryTape.give.Goals as goal

pub input_of-requires : goal.input_of-requires
input_of-requires g c = record { sent = ap is_some c.requires.taken.given }

pub step-requires-clause-goes : goal.step-requires-clause-goes
step-requires-clause-goes g c =
    subst (λ input. GoesThere c.args.node input c.args.self.now.hosts.items) (same_Some c.requires.taken.input (view c.in-Ok.input) (sym c.requires.taken.given ∙ c.in-Ok.ensures.input)) c.requires.taken.there

pub returns-in-Ok-clause-done : goal.returns-in-Ok-clause-done
returns-in-Ok-clause-done g c = c.step.ensures.done (numbered c.args.action.now) c.in-Ok.ensures.input

pub returns-in-Err-clause-err : goal.returns-in-Err-clause-err
returns-in-Err-clause-err g c = λ sturdy. nothing_stays c.args.self.now.hosts.items c.args.self.now.sent.items c.args.node
