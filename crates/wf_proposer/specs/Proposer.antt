-- The model of a node's proposer, and its volatile state as in wf_model.
use Rattle.std.specs.Prelude.{◌≡◌, ◌==◌, ℕ, Bool, false, Option}
use Rattle.wf_def.specs.Definition.{Definition}
use Rattle.wf_model.specs.VolatileState as model
use Rattle.wf_model.specs.DurableState.{HasStored, DurableState, next_sequence}
use Rattle.wf_model.specs.Table as table
use Rattle.wf_model.specs.Table.{Transition}
use Rattle.wf_proposer.specs.VolatileState as shown
use Rattle.wf_proposer.specs.Next.{Next, transition_at}
use Rattle.wf_proposer.specs.declared.volatile.VolatileState.{VolatileState}

-- its node, the farm's number of nodes, and its volatile state: at most one proposal, or how the
-- last one ended, and a leadership
pub record Proposer : Type 0 where
  pub node : ℕ
  pub nodes : ℕ
  pub volatile : VolatileState

-- its volatile state, as in wf_model
abbrev pub volatile_of : Proposer → model.VolatileState Definition
volatile_of proposer = shown.volatile_of proposer.volatile

-- its result, as a transition of the step table: the record, the messages, and the volatile state
-- after the commit
abbrev pub transition_of : Proposer → Next → Transition Definition
transition_of proposer next = transition_at proposer.volatile.leadership proposer.volatile.proposing next

-- whether a proposal runs for this sequence
abbrev pub runs_for : ℕ → model.Proposing Definition → Bool
runs_for s model.Idle = false
runs_for s (model.Running p) = p.sequence == s
runs_for s (model.Won t) = false
runs_for s (model.Overtaken t) = false

-- This holds of each stored state with this round tried and this last published sequence, whatever
-- else is stored.
abbrev pub ForStored : ℕ → ℕ → (DurableState Definition → Type 0) → Type 0
ForStored tried published holds = (stored : DurableState Definition) → HasStored stored tried published → holds stored

-- This holds of each stored state with this round tried.
abbrev pub ForTried : ℕ → (DurableState Definition → Type 0) → Type 0
ForTried tried holds = (stored : DurableState Definition) → stored.tried ≡ tried → holds stored

-- why the table rejects a proposal; why, if none runs; and why it rejects a retry
abbrev pub start_step_rejection : Proposer → DurableState Definition → Option table.StepRejection
start_step_rejection proposer stored = table.reject_proposal stored (volatile_of proposer).leadership (volatile_of proposer).proposing

abbrev pub begin_step_rejection : Proposer → DurableState Definition → Option table.StepRejection
begin_step_rejection proposer stored = table.reject_round stored (model.leading_at (volatile_of proposer).leadership (next_sequence stored))

abbrev pub retry_step_rejection : Proposer → DurableState Definition → Option table.StepRejection
retry_step_rejection proposer stored = table.reject_retry stored (volatile_of proposer).proposing

-- the transitions of a proposal of `own`, and of a retry
abbrev pub propose_transition : Proposer → DurableState Definition → Definition → Transition Definition
propose_transition proposer stored own = table.on_propose proposer.node stored (volatile_of proposer) own

abbrev pub retry_transition : Proposer → DurableState Definition → Transition Definition
retry_transition proposer stored = table.on_retry proposer.node stored (volatile_of proposer)
