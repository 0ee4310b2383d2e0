-- An answer as a transition of the step table.
use Rattle.std.specs.Prelude.{◌≡◌, ℕ, option_map, IsSome}
use Rattle.std.specs.Option.{option_to_list}
use Rattle.wf_ballot.specs.Ballot.{Ballot}
use Rattle.wf_model.specs.DurableState.{DurableState}
use Rattle.wf_model.specs.VolatileState.{VolatileState}
use Rattle.wf_model.specs.Table.{Transition, on_accept, on_prepare}
use Rattle.wf_def.specs.Definition.{Definition}
use Rattle.wf_codec.specs.Message as message
use Rattle.wf_journal.specs.Record as record_
use Rattle.wf_acceptor.specs.Acceptor.{Part, ActsFor}
use Rattle.wf_acceptor.specs.declared.acceptor.AcceptorAnswer.{AcceptorAnswer}

-- the answer as a transition, at a node with this volatile state
abbrev pub transition_of : AcceptorAnswer → VolatileState Definition → Transition Definition
transition_of answer volatile = record {
  entry = option_map record_.view answer.entry;
  messages = option_to_list (option_map message.view answer.reply);
  volatile = volatile;
}

-- the transitions of a Prepare and of an Accept at a slot, at a node with this part
abbrev pub prepare_transition : Part → ℕ → Ballot → DurableState Definition → VolatileState Definition → Transition Definition
prepare_transition part s b stored volatile = on_prepare part.id stored volatile s b

abbrev pub accept_transition : Part → ℕ → Ballot → Definition → DurableState Definition → VolatileState Definition → Transition Definition
accept_transition part s b d stored volatile = on_accept part.id stored volatile s b d

-- The answer is this transition, whatever else the node's state is.
abbrev pub AnswersAlways : Part → (DurableState Definition → VolatileState Definition → Transition Definition) → AcceptorAnswer → Type 0
AnswersAlways part transition answer = (stored : DurableState Definition) (volatile : VolatileState Definition) → ActsFor part stored → transition_of answer volatile ≡ transition stored volatile

-- The transition stores a record, whatever else the node's state is.
abbrev pub Stores : Part → (DurableState Definition → VolatileState Definition → Transition Definition) → Type 0
Stores part transition = (stored : DurableState Definition) (volatile : VolatileState Definition) → ActsFor part stored → IsSome (transition stored volatile).entry
