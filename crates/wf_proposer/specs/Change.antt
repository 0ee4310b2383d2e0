-- The effect of a commit on the volatile state.
use Rattle.std.specs.Prelude.{ℕ, List, Option}
use Rattle.wf_ballot.specs.Ballot.{Ballot}
use Rattle.wf_def.specs.Definition.{Definition}
use Rattle.wf_codec.specs.Message.{view_votes}
use Rattle.wf_model.specs.VolatileState.{better_each}
use Rattle.wf_proposer.specs.declared.volatile.Leadership.{Leadership}
use Rattle.wf_proposer.specs.declared.volatile.Proposing.{Proposing}
use Rattle.wf_proposer.specs.declared.volatile.Proposing.TheVariants.{Running}
use Rattle.wf_proposer.specs.declared.volatile.Phase.TheVariants.{Preparing, Accepting}
use Rattle.wf_proposer.specs.declared.volatile.VolatileState.{VolatileState}
use Rattle.wf_proposer.specs.declared.change.Change.{Change}
use Rattle.wf_proposer.specs.declared.change.Change.TheVariants.{Nothing, Becomes, Proposes, CountsPromise, CountsVote, Sees}

-- the proposal after a promise: these nodes have promised, and these votes are reported
abbrev pub with_promise : ℕ → List (Option (Ballot × Definition)) → Proposing → Proposing
with_promise responders votes (Running p (Preparing best)) = Running (record p { responders = responders }) (Preparing (better_each best (view_votes votes)))
with_promise responders votes proposing = proposing

-- the proposal after a vote: these nodes have voted
abbrev pub with_vote : ℕ → Proposing → Proposing
with_vote responders (Running p Accepting) = Running (record p { responders = responders }) Accepting
with_vote responders proposing = proposing

-- the proposal with this as the highest round that a Nack reported
abbrev pub with_seen : ℕ → Proposing → Proposing
with_seen round (Running p phase) = Running (record p { seen = round }) phase
with_seen round proposing = proposing

-- the volatile state after the change
abbrev pub changed : Change → Option Leadership → Proposing → VolatileState
changed Nothing leadership proposing = record { proposing = proposing; leadership = leadership }
changed (Becomes next) leadership proposing = next
changed (Proposes next) leadership proposing = record { proposing = next; leadership = leadership }
changed (CountsPromise responders report) leadership proposing = record { proposing = with_promise responders report.votes proposing; leadership = leadership }
changed (CountsVote responders) leadership proposing = record { proposing = with_vote responders proposing; leadership = leadership }
changed (Sees round) leadership proposing = record { proposing = with_seen round proposing; leadership = leadership }
