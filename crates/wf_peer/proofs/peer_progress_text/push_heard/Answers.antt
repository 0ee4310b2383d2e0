-- The parts of a line are appended, one after the other.
use Rattle.std.proofs.Common.{◌∙◌, ◌++◌, [], ap}
use Rattle.wf_folder.specs.Words.{reach_then}
use Rattle.wf_folder.specs.declared.reach.Reach.{Reach}
use Rattle.wf_peer.proofs.Lines.{five_parts}
use Rattle.wf_peer.proofs.peer_progress_text.push_heard.Goals as goal

pub returns-clause-items : goal.returns-clause-items
returns-clause-items c =
    five_parts c.args.text.now.items c.push_mark_after.new.text.items c.push_word.new.text.items c.push_mark_after-2.new.text.items c.push_reach.new.text.items c.push_accusation.new.text.items c.args.heard.now
    c.in_ok-push_mark_after.ensures.items c.in_ok-push_word.ensures.items c.in_ok-push_mark_after-2.ensures.items
    (c.in_ok-push_reach.ensures.items ∙ ap (λ (r : Reach). c.push_mark_after-2.new.text.items ++ reach_then r []) c.reach.ensures) c.in_ok-push_accusation.ensures
