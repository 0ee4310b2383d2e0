-- The volatile state of a node as data: the nodes whose answers a proposal has counted are the bits
-- of a number.
use Rattle.std.specs.Prelude.{ℕ, List, Option, if◌then◌else◌}
use Rattle.wf_ballot.specs.Ballot.{Ballot}
use Rattle.wf_def.specs.Definition.{Definition}
use Rattle.wf_model.specs.Message.{Vote}
use Rattle.wf_model.specs.VolatileState as model
use Rattle.wf_model.specs.VolatileState.{Phase, Leadership}
use Rattle.wf_proposer.specs.Responders.{among}
use Rattle.wf_proposer.specs.VolatileState.{best_of, leading_of, phase_of}
use Rattle.wf_proposer.specs.declared.proposal.Proposal as proposer
use Rattle.wf_proposer.specs.declared.volatile.Proposing as held
use Rattle.wf_proposer.specs.declared.volatile.Proposing.TheVariants as held_case
use Rattle.wf_proposer.specs.declared.volatile.VolatileState as held_volatile

-- a running proposal
pub record Proposal : Type 0 where
  pub sequence : ℕ
  pub ballot : Ballot
  pub own : Definition
  pub phase : Phase
  pub responders : ℕ
  pub best : List (Option (Vote Definition))
  pub seen : ℕ

-- no proposal yet, a running one, or how the last one ended, with its sequence
pub data Proposing : Type 0 where
  Idle : Proposing
  Running : (proposal : Proposal) → Proposing
  Won : (sequence : ℕ) → Proposing
  Overtaken : (sequence : ℕ) → Proposing

-- the whole volatile state
pub record VolatileState : Type 0 where
  pub proposing : Proposing
  pub leadership : Option (Leadership Definition)

-- all as in wf_model
abbrev pub proposal_of : Proposal → model.Proposal Definition
proposal_of p =
    record {
      sequence = p.sequence;
      ballot = p.ballot;
      own = p.own;
      phase = p.phase;
      responders = among p.responders;
      best = p.best;
      seen = p.seen;
    }

abbrev pub proposing_of : Proposing → model.Proposing Definition
proposing_of Idle = model.Idle
proposing_of (Running p) = model.Running (proposal_of p)
proposing_of (Won s) = model.Won s
proposing_of (Overtaken s) = model.Overtaken s

abbrev pub volatile_of : VolatileState → model.VolatileState Definition
volatile_of volatile = record { proposing = proposing_of volatile.proposing; leadership = volatile.leadership }

-- a proposer's volatile state, as the node's model has it
abbrev pub shown_proposal : Phase → List (Option (Vote Definition)) → proposer.Proposal → Proposal
shown_proposal phase best p =
    record {
      sequence = p.slot;
      ballot = p.ballot;
      own = p.own;
      phase = phase;
      responders = p.responders;
      best = best;
      seen = p.seen;
    }

abbrev pub shown_proposing : Option (Leadership Definition) → held.Proposing → Proposing
shown_proposing leadership held_case.Idle = Idle
shown_proposing leadership (held_case.Running p phase) = Running (shown_proposal (phase_of phase) (best_of leadership p.slot phase) p)
shown_proposing leadership (held_case.Ended s is_own) = if is_own then Won s else Overtaken s

abbrev pub shown : held_volatile.VolatileState → VolatileState
shown volatile =
    record { proposing = shown_proposing (leading_of volatile.leadership) volatile.proposing; leadership = leading_of volatile.leadership }
