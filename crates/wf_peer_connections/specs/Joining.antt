-- What a folder that joins hears by the greeting of a peer.
use Rattle.std.specs.Prelude.{◌≡◌, ℕ, Option, Some}
use Rattle.wf_peer_connections.specs.Told.{IsToldBy, answer_in}
use Rattle.wf_peer_connections.specs.declared.joiner.Joiner.{Joiner}
use Rattle.wf_membership.specs.declared.membership.Membership.{Membership}
use Rattle.wf_peer_connections.specs.declared.order.Order.{Order}
use Rattle.wf_peer_connections.specs.declared.order.Order.TheVariants as orders
use Rattle.wf_peer_connections.specs.declared.plan.NodePlan.{NodePlan}
use Rattle.wf_peer.specs.declared.greeting.Greeting.{Greeting}
use Rattle.wf_rejoin.specs.JoinStep.{StepCounts}
use Rattle.wf_rejoin.specs.Replacements.{latest_of}
use Rattle.wf_rejoin.specs.declared.join_step.JoinStep.{JoinStep}

-- It counts for the folder, and the greeting says it. Both the folder and the peer know of the
-- folder's own replacement as its node's latest.
pub record IsToldIn (own : ℕ) (membership : Membership) (g : Greeting) (joiner : Joiner) (step : JoinStep) : Type 0 where
  pub counts : StepCounts step joiner.joining
  pub known : latest_of membership.replacements own ≡ Some joiner.joining.replacement
  pub agreed : latest_of g.replacements own ≡ Some joiner.joining.replacement
  pub told : IsToldBy g.node joiner.joining.replacement (answer_in g) step

-- the folder of this plan joins, and is to write what the greeting says to it
abbrev pub IsOrderBy : NodePlan → Membership → Greeting → Option Order → Type 0
IsOrderBy plan membership g (Some (orders.Join step)) = (joiner : Joiner) × (plan.joining ≡ Some joiner) × IsToldIn plan.own.node membership g joiner step
IsOrderBy plan membership g order = ⊥
