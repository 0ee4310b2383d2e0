use Rattle.std.proofs.Common.{◌≡◌, ℕ, ap, subst, ◌∙◌}
use Rattle.std.proofs.Math.Logic.{∥∥₁_map}
use Rattle.wf_node.specs.Node.{Node}
use Rattle.wf_actor.specs.Process.{IsReceived}
use Rattle.wf_actor.specs.declared.actor.Actor.{Actor}
use Rattle.wf_actor.specs.declared.actor.Origin.TheVariants.{Own}
use Rattle.wf_actor.proofs.Receipt.{just_one}
use Rattle.wf_actor.proofs.process.Process.handle_own.Goals as goal

pub give-requires-clause-own : goal.give-requires-clause-own
give-requires-clause-own g c = ∥∥₁_map c.in-Some.ensures.emitted (λ is. just_one c.in-Some.message _ is)

pub returns-in-Some : goal.returns-in-Some
returns-in-Some g c =
    let own : c.id-own.result ≡ c.args.self.now.actor.node.id =
    c.id-own.ensures ∙ ap (λ (x : Node g.row.T.Denot). x.id) c.node.ensures ∙ ap (λ (a : Actor g.row.T.Denot g.T.Tape). a.node.id) c.in-Some.ensures.some.rest.actor in
    (c.in-Some.message, c.pop_own.new.self, c.in-Some.ensures.some, subst (λ (k : ℕ). IsReceived g.T.Tape c.in-Some.message Own k c.pop_own.new.self c.give.result c.give.new.self) own c.give.ensures)
