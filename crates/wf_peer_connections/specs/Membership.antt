-- What a node goes by of the replacements of nodes.
use Rattle.std.specs.Prelude.{is_some}
use Rattle.wf_membership.specs.declared.membership.Membership.{Membership}
use Rattle.wf_peer_connections.specs.declared.plan.NodePlan.{NodePlan}

-- by its plan: whether its folder joins, and the replacements that its folder knows of
abbrev pub membership_by : NodePlan → Membership
membership_by plan = record { joins = is_some plan.joining; replacements = plan.replacements }
