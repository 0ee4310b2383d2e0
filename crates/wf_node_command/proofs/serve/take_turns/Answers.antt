-- The event loop's process, at whatever end, is a later moment of the one that it began with, what
-- it heard is in the folder, and one whose folder joins has only learned.
use Rattle.std.proofs.Common.{◌∙◌, List, subst, sym}
use Rattle.wf_loop.specs.EventLoop.{IsHeardFirst}
use Rattle.wf_node_command.proofs.Served.{lived_on}
use Rattle.wf_node_command.proofs.serve.take_turns.Goals as goal
use Rattle.wf_node_folder.specs.Folder.{heard_in}
use Rattle.wf_store.specs.Call.{Call}

pub returns-clause-on : goal.returns-clause-on
returns-clause-on g c =
    let heard = subst (λ (calls : List Call). IsHeardFirst (heard_in calls) c.run_turns.new.node.event_loop) (sym c.close.ensures.same) (c.run_turns.ensures.heard c.requires.heard) in
    λ plan goes_by learns. lived_on g.S.Tape.Tape c.args.node.event_loop c.run_turns.new.node.event_loop plan _ c.run_turns.ensures.lived c.run_turns.ensures.answered c.run_turns.ensures.replied c.run_turns.ensures.earlier heard (c.run_turns.ensures.membership ∙ goes_by) (λ joins. c.run_turns.ensures.learns (learns joins))
