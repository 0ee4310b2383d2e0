-- A proposer's result, as a transition of the step table.
use Rattle.std.specs.Prelude.{◌≡◌, ℕ, List, [], ◌∷◌, map, Option, Some, None, option_map, Result, Err, IfOk, IsErr, max, ◌==◌, ◌&&◌, if◌then◌else◌}
use Rattle.wf_ballot.specs.Ballot.{Ballot}
use Rattle.wf_def.specs.Definition.{Definition}
use Rattle.wf_def.specs.Equality.{definition_eq}
use Rattle.wf_journal.specs.declared.record.Record.{Record}
use Rattle.wf_journal.specs.declared.record.Record.TheVariants.{Tried}
use Rattle.wf_journal.specs.declared.record.Record.TheVariants as tape
use Rattle.wf_journal.specs.Record as record_of_tape
use Rattle.wf_codec.specs.declared.message.Message.{Message}
use Rattle.wf_codec.specs.declared.message.Message.TheVariants.{Prepare, Accept, Chosen}
use Rattle.wf_codec.specs.Message as message
use Rattle.wf_codec.specs.Message.{view_votes}
use Rattle.wf_codec.specs.Report.{Report}
use Rattle.wf_model.specs.Message.{Vote, first_vote, vote_of}
use Rattle.wf_model.specs.VolatileState.{better_each, carried, same_ballot}
use Rattle.wf_model.specs.Table.{Transition, on_accepted, on_promise}
use Rattle.wf_proposer.specs.Responders.{are_majority}
use Rattle.wf_proposer.specs.VolatileState.{volatile_of}
use Rattle.wf_proposer.specs.Change.{changed}
use Rattle.wf_proposer.specs.declared.proposal.Proposal.{Proposal}
use Rattle.wf_proposer.specs.declared.step_rejection.StepRejection.{StepRejection}
use Rattle.wf_proposer.specs.declared.step_rejection.StepRejection.TheVariants.{Memory}
use Rattle.wf_proposer.specs.declared.volatile.Leadership.{Leadership}
use Rattle.wf_proposer.specs.declared.volatile.Proposing.{Proposing}
use Rattle.wf_proposer.specs.declared.volatile.Proposing.TheVariants.{Running, Ended}
use Rattle.wf_proposer.specs.declared.volatile.Phase.TheVariants.{Preparing, Accepting}
use Rattle.wf_proposer.specs.declared.volatile.VolatileState.{VolatileState}
use Rattle.wf_proposer.specs.declared.change.Change.{Change}
use Rattle.wf_proposer.specs.declared.change.Change.TheVariants.{Nothing, Becomes, Proposes, CountsPromise, CountsVote, Sees}

-- the record to store, None if there is none; the messages to send after that; and the effect of a
-- commit on the volatile state
pub record Next : Type 0 where
  pub entry : Option Record
  pub messages : List Message
  pub change : Change

-- the transition of this result, at a proposer with that volatile state
abbrev pub transition_at : Option Leadership → Proposing → Next → Transition Definition
transition_at leadership proposing next =
    record {
      entry = option_map record_of_tape.view next.entry;
      messages = map message.view next.messages;
      volatile = volatile_of (changed next.change leadership proposing);
    }

-- the result if a proposal of `own` begins at the ballot
abbrev pub begun : ℕ → Definition → Ballot → Next
begun slot own ballot =
    record {
      entry = Some (Tried ballot.round);
      messages = Prepare slot ballot ∷ [];
      change = Becomes (record {
        proposing = Running (record { slot = slot; ballot = ballot; own = own; responders = 0; seen = 0 }) (Preparing []);
        leadership = None;
      });
    }

-- the result if a leader's proposal of `own` begins
abbrev pub led : Leadership → ℕ → Definition → Next
led leadership slot own =
    record {
      entry = None;
      messages = Accept slot leadership.ballot (carried (vote_of leadership.base leadership.best slot) own) ∷ [];
      change = Proposes (Running (record { slot = slot; ballot = leadership.ballot; own = own; responders = 0; seen = 0 }) Accepting);
    }

-- the leadership once a majority has promised, with these best votes
abbrev pub leadership_from : Proposal → List (Option (Vote Definition)) → Leadership
leadership_from p best = record { base = p.slot; ballot = p.ballot; best = best }

-- the result once a majority has promised, with these best votes; votes are asked for d
abbrev pub elected_for : Proposal → List (Option (Vote Definition)) → Definition → Next
elected_for p best d =
    record {
      entry = None;
      messages = Accept p.slot p.ballot d ∷ [];
      change = Becomes (record {
        proposing = Running (record p { responders = 0 }) Accepting;
        leadership = Some (leadership_from p best);
      });
    }

abbrev pub elect : Proposal → List (Option (Vote Definition)) → Next
elect p best = elected_for p best (carried (first_vote best) p.own)

-- the result after these of n nodes promised, the last one with this report
abbrev pub promised_by : ℕ → Proposal → List (Option (Vote Definition)) → ℕ → Report → Next
promised_by n p best responders report =
    if are_majority n responders
    then elect p (better_each best (view_votes report.votes))
    else record { entry = None; messages = []; change = CountsPromise responders report }

-- how the proposal ends if d is published at its slot
abbrev pub ended_with : Proposal → Definition → Proposing
ended_with p d = Ended p.slot (definition_eq p.own d)

-- the result once a majority has voted for d
abbrev pub chosen_for : Proposal → Definition → Next
chosen_for p d =
    record {
      entry = Some (tape.Published p.slot d);
      messages = Chosen p.slot d ∷ [];
      change = Proposes (ended_with p d);
    }

-- the result after these of n nodes voted for d
abbrev pub voted_by : ℕ → Proposal → Definition → ℕ → Next
voted_by n p d responders =
    if are_majority n responders
    then chosen_for p d
    else record { entry = None; messages = []; change = CountsVote responders }

-- the result after a Nack of this ballot at the slot, with the promise
abbrev pub nacked_by : Proposal → ℕ → Ballot → Ballot → Next
nacked_by p slot ballot promise =
    record {
      entry = None;
      messages = [];
      change = (if (p.slot == slot) && same_ballot p.ballot ballot then Sees (max p.seen promise.round) else Nothing);
    }

-- the transition sends something
abbrev pub Sends : Transition Definition → Type 0
Sends transition = transition.messages ≡ [] → ⊥

-- the transitions of a Promise and of an Accepted, in a farm of n nodes, at this volatile state
abbrev pub promise_transition : ℕ → VolatileState → ℕ → Ballot → Report → Transition Definition
promise_transition n volatile from ballot report = on_promise n (volatile_of volatile) from report.slot ballot (view_votes report.votes)

abbrev pub accepted_transition : ℕ → VolatileState → ℕ → ℕ → Ballot → Transition Definition
accepted_transition n volatile from slot ballot = on_accepted definition_eq n (volatile_of volatile) from slot ballot

-- ---- a call's result

-- After Ok the result is this transition, at a proposer with that volatile state.
abbrev pub Returns : VolatileState → Transition Definition → Result Next StepRejection → Type 0
Returns volatile transition result = IfOk result (λ next. transition_at volatile.leadership volatile.proposing next ≡ transition)

-- The only error is allocation failure, and only if this transition sends something.
abbrev pub AllocatesOnlyToSend : Transition Definition → Result Next StepRejection → Type 0
AllocatesOnlyToSend transition result = IsErr result → Sends transition × (result ≡ Err Memory)
