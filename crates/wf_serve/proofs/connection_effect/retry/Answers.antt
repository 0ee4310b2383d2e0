-- If the proposal runs, the node is asked and its messages are delivered; otherwise nothing
-- happens.
use Rattle.std.proofs.Common.{refl, inl, inr}
use Rattle.wf_delivery.proofs.OneRun.{nothing_is_reachable}
use Rattle.wf_farm.specs.Nodes.{nodes_in}
use Rattle.wf_serve.proofs.connection_effect.retry.Goals as goal

pub returns-then-proposes-clause-retried : goal.returns-then-proposes-clause-retried
returns-then-proposes-clause-retried g c = inl (record { runs = c.proposes.ensures.running c.if-proposes.true; anew = c.restart.ensures.arrived })

pub returns-then-proposes-clause-reachable : goal.returns-then-proposes-clause-reachable
returns-then-proposes-clause-reachable g c = c.restart.ensures.reachable

pub returns-else-proposes-clause-retried : goal.returns-else-proposes-clause-retried
returns-else-proposes-clause-retried g c = inr (c.proposes.ensures.resting c.if-proposes.false, refl)

pub returns-else-proposes-clause-reachable : goal.returns-else-proposes-clause-reachable
returns-else-proposes-clause-reachable g c = nothing_is_reachable g.T.Tape (nodes_in c.args.farm.now)
