-- The volatile state of a node, as in wf_model.
use Rattle.std.specs.Prelude.{ℕ, List, [], Option, Some, None, option_map, if◌then◌else◌}
use Rattle.wf_def.specs.Definition.{Definition}
use Rattle.wf_model.specs.Message.{Vote, from_sequence}
use Rattle.wf_model.specs.VolatileState as model
use Rattle.wf_proposer.specs.Proposal.{proposal_of}
use Rattle.wf_proposer.specs.declared.proposal.Proposal.{Proposal}
use Rattle.wf_proposer.specs.declared.volatile.Leadership.{Leadership}
use Rattle.wf_proposer.specs.declared.volatile.Proposing.{Proposing}
use Rattle.wf_proposer.specs.declared.volatile.Proposing.TheVariants.{Idle, Running, Ended}
use Rattle.wf_proposer.specs.declared.volatile.Phase.{Phase}
use Rattle.wf_proposer.specs.declared.volatile.Phase.TheVariants.{Preparing, Accepting}
use Rattle.wf_proposer.specs.declared.volatile.VolatileState.{VolatileState}

abbrev pub leadership_of : Leadership → model.Leadership Definition
leadership_of leadership = record { base = leadership.base; ballot = leadership.ballot; best = leadership.best }

abbrev pub leading_of : Option Leadership → Option (model.Leadership Definition)
leading_of leadership = option_map leadership_of leadership

-- the best votes of a proposal that asks for votes at s: those of the leadership, from s on
abbrev pub led_votes : Option (model.Leadership Definition) → ℕ → List (Option (Vote Definition))
led_votes None s = []
led_votes (Some leadership) s = from_sequence leadership.base leadership.best s

-- the phase of a proposal, and the best votes of one at s
abbrev pub phase_of : Phase → model.Phase
phase_of (Preparing best) = model.Preparing
phase_of Accepting = model.Accepting

abbrev pub best_of : Option (model.Leadership Definition) → ℕ → Phase → List (Option (Vote Definition))
best_of leadership s (Preparing best) = best
best_of leadership s Accepting = led_votes leadership s

abbrev pub proposing_of : Option (model.Leadership Definition) → Proposing → model.Proposing Definition
proposing_of leadership Idle = model.Idle
proposing_of leadership (Running p phase) = model.Running (proposal_of (phase_of phase) (best_of leadership p.slot phase) p)
proposing_of leadership (Ended s is_own) = if is_own then model.Won s else model.Overtaken s

-- the volatile state of this leadership and proposal
abbrev pub volatile_from : Option (model.Leadership Definition) → Proposing → model.VolatileState Definition
volatile_from leadership proposing = record { proposing = proposing_of leadership proposing; leadership = leadership }

abbrev pub volatile_of : VolatileState → model.VolatileState Definition
volatile_of volatile = volatile_from (leading_of volatile.leadership) volatile.proposing

-- the volatile state while this proposal asks for promises, with the best votes so far; and while
-- it asks for votes
abbrev pub preparing : Option Leadership → Proposal → List (Option (Vote Definition)) → VolatileState
preparing leadership p best = record { proposing = Running p (Preparing best); leadership = leadership }

abbrev pub accepting : Option Leadership → Proposal → VolatileState
accepting leadership p = record { proposing = Running p Accepting; leadership = leadership }
