-- What a peer tells a folder that joins.
use Rattle.std.specs.Prelude.{◌≡◌, ℕ, Option, Some, None}
use Rattle.wf_peer.specs.declared.greeting.Greeting.{Greeting}
use Rattle.wf_peer.specs.declared.state.NodeState.{NodeState}
use Rattle.wf_peer.specs.declared.state.NodeState.TheVariants as states
use Rattle.wf_rejoin.specs.declared.answer.Answer.{Answer}
use Rattle.wf_rejoin.specs.declared.join_step.JoinStep.{JoinStep}
use Rattle.wf_rejoin.specs.declared.join_step.JoinStep.TheVariants as steps
use Rattle.wf_rejoin.specs.declared.replacement.Replacement.{Replacement}

-- how far a peer is by its greeting, if it votes
abbrev pub answer_by : NodeState → Answer → Option Answer
answer_by states.Serves answer = Some answer
answer_by states.Halted answer = None
answer_by states.Suspended answer = None
answer_by states.Joins answer = None
answer_by states.Outvoted answer = None

abbrev pub answer_in : Greeting → Option Answer
answer_in g = answer_by g.state (record { published = g.progress.published; voted = g.voted })

-- that is what this peer says of this replacement: that it agreed, or how far it is
abbrev pub IsToldBy : ℕ → Replacement → Option Answer → JoinStep → Type 0
IsToldBy peer r answer (steps.Begin count) = ⊥
IsToldBy peer r answer (steps.Agree i s) = (i ≡ peer) × (s ≡ r)
IsToldBy peer r answer (steps.Answer i s a) = (i ≡ peer) × (s ≡ r) × (answer ≡ Some a)
