-- A running proposal, as in wf_model.
use Rattle.std.specs.Prelude.{◌≡◌, ℕ, Bool, List, Option}
use Rattle.wf_ballot.specs.Ballot.{Ballot}
use Rattle.wf_def.specs.Definition.{Definition}
use Rattle.wf_model.specs.Message.{Vote}
use Rattle.wf_model.specs.Table.{is_new_response}
use Rattle.wf_model.specs.VolatileState as model
use Rattle.wf_proposer.specs.Responders.{among}
use Rattle.wf_proposer.specs.declared.proposal.Proposal.{Proposal}

-- the running proposal in this phase and with these best votes, its mask of counted nodes as a set
abbrev pub proposal_of : model.Phase → List (Option (Vote Definition)) → Proposal → model.Proposal Definition
proposal_of phase best p =
    record {
      sequence = p.slot;
      ballot = p.ballot;
      own = p.own;
      phase = phase;
      responders = among p.responders;
      best = best;
      seen = p.seen;
    }

-- `waits` is whether the proposal in this phase waits for this answer, which is of the phase,
-- whatever the best votes are.
abbrev pub IsNewResponse : model.Phase → ℕ → Proposal → ℕ → ℕ → Ballot → Bool → Type 0
IsNewResponse phase n p from slot ballot waits = (best : List (Option (Vote Definition))) → waits ≡ is_new_response n (proposal_of phase best p) phase from slot ballot
