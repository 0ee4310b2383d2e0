use Rattle.std.proofs.Common.{[], ◌∷◌, ◌++◌, ap, refl, ◌∙◌}
use Rattle.std.proofs.Math.Logic.{∥∥₁_map}
use Rattle.wf_node.specs.Node.{Node}
use Rattle.wf_wire.specs.Post.{logged}
use Rattle.wf_actor.proofs.Lives.{life_serves, logged_grows}
use Rattle.wf_actor.proofs.actor.Actor.serve.Goals as goal

pub invariant_of-self : goal.invariant_of-self
invariant_of-self g c = record {
  lived = ∥∥₁_map c.args.self.now.lived (λ life.
      life_serves g.T.Tape c.args.self.now.read_from.items c.args.self.now.stood.items c.args.self.now.given.items (logged c.args.self.now.emitted.items) c.args.self.now.node life c.serve-served.result.messages c.serve-served.new.self c.serve-served.ensures.moves
      c.and-self-2.result.items c.args.self.now.given.items (logged c.and-self.result.items) (c.and-self-2.ensures ∙ ap (λ (x : Node g.row.T.Denot). c.args.self.now.stood.items ++ (x, 0) ∷ []) c.get.ensures) refl (logged_grows c.args.self.now.emitted.items c.and-self.result.items c.serve-served.result.messages c.and-self.ensures));
  received = c.args.self.now.received;
}

pub returns-clause-emitted : goal.returns-clause-emitted
returns-clause-emitted g c = logged_grows c.args.self.now.emitted.items c.and-self.result.items c.serve-served.result.messages c.and-self.ensures
