-- What a folder that joins is to write by the greeting of a peer.
use Rattle.std.proofs.Common.{◌≡◌, ◌⊎◌, inr}
use Rattle.std.specs.Prelude.{Option, Some}
use Rattle.wf_peer_connections.specs.Joining.{IsOrderBy, IsToldIn}
use Rattle.wf_peer_connections.specs.declared.joiner.Joiner.{Joiner}
use Rattle.wf_membership.specs.declared.membership.Membership.{Membership}
use Rattle.wf_peer_connections.specs.declared.order.Order.{Order}
use Rattle.wf_peer_connections.specs.declared.order.Order.TheVariants as orders
use Rattle.wf_peer_connections.specs.declared.plan.NodePlan.{NodePlan}
use Rattle.wf_peer.specs.declared.greeting.Greeting.{Greeting}
use Rattle.wf_rejoin.specs.declared.join_step.JoinStep.{JoinStep}

pub ordered : (plan : NodePlan) (membership : Membership) (g : Greeting) (joiner : Joiner) (step : JoinStep) (before : Option Order) → plan.joining ≡ Some joiner → IsToldIn plan.own.node membership g joiner step
    → (Some (orders.Join step) ≡ before) ⊎ IsOrderBy plan membership g (Some (orders.Join step))
ordered plan membership g joiner step before joins told = inr (joiner, joins, told)
