-- New nodes that catch up are new still: all of them have published nothing.
use Rattle.std.proofs.Common.{◌≡◌, ◌∙◌, List, length, ap, subst, sym}
use Rattle.wf_def.specs.Definition.{Definition}
use Rattle.wf_catch_up.specs.CatchUp.{LevelRests, StandLevel}
use Rattle.wf_delivery.specs.Reachability.{AreFresh, IsFresh}
use Rattle.wf_model.specs.DurableState.{DurableState, nothing_stored}
use Rattle.wf_node.specs.Node.{Node}
use Rattle.wf_serve.specs.Publication.{CaughtUpAreNew}
use Rattle.wf_tape.specs.declared.tape.Tape.{Ghosts as Tape}

none_published : {T : Type 0} (node : Node T) → IsFresh node → length node.parts.history ≡ 0
unfolding nothing_stored
none_published node fresh = ap (λ (x : DurableState Definition). length x.history) fresh.stored

fresh_level : {T : Type 0} (nodes : List (Node T)) → AreFresh nodes → StandLevel nodes
unfolding AreFresh StandLevel
fresh_level nodes fresh = λ i j node other at there runs also. none_published node (fresh i node at) ∙ sym (none_published other (fresh j other there))

pub caught_up_are_new : {T : Type 0} (tapes : Tape T) → LevelRests tapes → CaughtUpAreNew tapes
caught_up_are_new tapes rests = λ nodes nodes_after fresh caught. subst AreFresh (sym (rests nodes nodes_after caught.lost (fresh_level nodes fresh) caught.caught)) fresh
