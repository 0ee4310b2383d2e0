use Rattle.std.proofs.Common.{[], ◌∷◌, ◌++◌, ap, refl, ◌∙◌}
use Rattle.std.proofs.Math.Logic.{∥∥₁_elim, ∥∥₁_map, ∥∥₁_map₂, ∥∥₁_prop}
use Rattle.wf_node.specs.Node.{Node}
use Rattle.wf_wire.specs.Post.{logged}
use Rattle.wf_execution.specs.Run.{given_to}
use Rattle.wf_actor.proofs.Lives.{life_steps_now}
use Rattle.wf_actor.proofs.Receipt.{given_on}
use Rattle.wf_actor.proofs.actor.Actor.step.Goals as goal

pub invariant_of-self : goal.invariant_of-self
invariant_of-self g c = record {
  lived = ∥∥₁_elim c.args.self.now.lived ∥∥₁_prop (λ life. ∥∥₁_map c.requires.own (λ own.
      life_steps_now g.T.Tape c.args.self.now.read_from.items c.args.self.now.stood.items c.args.self.now.given.items (logged c.args.self.now.emitted.items) c.args.self.now.node life c.args.input c.args.origin c.step-answer.result c.step-answer.new.self
      c.step-answer.ensures own c.and-self.result.items c.note.new.given.items (logged c.report.new.emitted.items)
      (c.and-self.ensures ∙ ap (λ (x : Node g.row.T.Denot). c.args.self.now.stood.items ++ (x, 0) ∷ []) c.get.ensures) c.note.ensures c.report.ensures));
  received = ∥∥₁_map₂ c.args.self.now.received c.requires.come (λ h come. given_on c.args.self.now.given.items c.note.new.given.items c.args.origin (given_to c.args.input) h come c.note.ensures);
}
