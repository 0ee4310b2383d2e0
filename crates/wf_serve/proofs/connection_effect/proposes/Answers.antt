-- The node at the index runs, so it is there.
use Rattle.std.proofs.Common.{sym}
use Rattle.wf_serve.proofs.RunningNodes.{node_there, one_there}
use Rattle.wf_serve.proofs.connection_effect.proposes.Goals as goal

pub returns-in-Some-clause-running : goal.returns-in-Some-clause-running
returns-in-Some-clause-running g c = λ is. (c.in-Some.node.now, node_there c.args.farm.now.hosts c.args.node_index c.requires.running c.requires.within c.in-Some.node.now (sym c.in-Some.ensures), c.runs.ensures.running is)

pub returns-in-Some-clause-resting : goal.returns-in-Some-clause-resting
returns-in-Some-clause-resting g c = λ is. (c.in-Some.node.now, node_there c.args.farm.now.hosts c.args.node_index c.requires.running c.requires.within c.in-Some.node.now (sym c.in-Some.ensures), c.runs.ensures.resting is)

pub returns-in-None-clause-running : goal.returns-in-None-clause-running
returns-in-None-clause-running g c = absurd (one_there c.args.farm.now.hosts c.args.node_index c.requires.running c.requires.within (sym c.in-None.ensures))

pub returns-in-None-clause-resting : goal.returns-in-None-clause-resting
returns-in-None-clause-resting g c = absurd (one_there c.args.farm.now.hosts c.args.node_index c.requires.running c.requires.within (sym c.in-None.ensures))
