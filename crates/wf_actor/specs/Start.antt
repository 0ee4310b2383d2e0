-- The node of a process that opens.
use Rattle.std.specs.Prelude.{◌≡◌, ℕ, ⊤, List, false}
use Rattle.wf_model.specs.VolatileState.{at_start}
use Rattle.wf_node.specs.Node.{Node, stored_of, volatile_of, IsOnTape}
use Rattle.wf_node.specs.OpenedNode.{IsRead, IsWhyBad}
use Rattle.wf_journal.specs.Journal.{Follows, ReadsSame}
use Rattle.wf_tape.specs.declared.tape.Tape.{Ghosts as Tape}
use Rattle.wf_actor.specs.declared.reopening.ReopenFault.{ReopenFault}
use Rattle.wf_actor.specs.declared.reopening.ReopenFault.TheVariants as fault

-- Node `id` of n is opened on the tape: it runs, with no proposal and no leadership, and has stored
-- what the records fold to that were read of the tape: those of its content, if it is durable.
pub record IsOpened {T : Type 0} (tapes : Tape T) (tape : T) (id n : ℕ) (node : Node T) : Type 0 where
  pub number : node.id ≡ id
  pub among : node.n ≡ n
  pub runs : node.halted ≡ false
  pub idle : volatile_of node ≡ at_start
  pub found : IsRead tapes.durable (tapes.content tape) (stored_of node)
  pub stands : tapes.durable → IsOnTape tapes node
  pub images : tapes.durable → Follows ReadsSame (tapes.images tape) (tapes.images node.tape)

-- a tape that doesn't open has a cause, as at a start
abbrev pub IsWhyNotReopened : ReopenFault → List ℕ → Type 0
IsWhyNotReopened (fault.Tape why) content = IsWhyBad why content
IsWhyNotReopened fault.Differs content = ⊤
