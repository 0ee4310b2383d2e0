use Rattle.std.proofs.Common.{◌∙◌, IsSome, Option, ap, subst, sym}
use Rattle.wf_folder.specs.declared.suspension.Suspension.{Suspension}
use Rattle.wf_loop.proofs.service.event_loop_of.Goals as goal
use Rattle.wf_peer_connections.specs.Membership.{membership_by}
use Rattle.wf_peer_connections.specs.declared.plan.NodePlan.{NodePlan}

pub returns-in-Ok-clause-suspended : goal.returns-in-Ok-clause-suspended
returns-in-Ok-clause-suspended g c = λ suspension same some. c.assemble.ensures.suspended (subst (λ (found : Option Suspension). IsSome found) (sym (rw c.in-Ok.is at same)) some)

pub returns-in-Ok-clause-joins : goal.returns-in-Ok-clause-joins
returns-in-Ok-clause-joins g c = λ plan same some. c.assemble.ensures.joins (subst (λ (p : NodePlan). IsSome p.joining) (sym (rw c.in-Ok.is at same)) some)

pub returns-in-Ok-clause-membership : goal.returns-in-Ok-clause-membership
returns-in-Ok-clause-membership g c = λ plan same. c.assemble.ensures.membership ∙ ap membership_by (rw c.in-Ok.is at same)
