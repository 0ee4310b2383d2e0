-- What was heard is in the file, and the voter knows it; or it may be there.
use Rattle.std.proofs.Common.{◌∙◌, List, ap, refl, subst, sym}
use Rattle.std.specs.Prelude.{Option}
use Rattle.wf_voter.proofs.Continuation.{wrote, wrote_or_not}
use Rattle.wf_peering.proofs.heard.keep_heard.Goals as goal
use Rattle.wf_peer.specs.PeerProgressText.{peer_progress_text}
use Rattle.wf_peer.specs.Told.{HearAll}
use Rattle.wf_peer.specs.declared.heard.Heard.{Heard}

pub returns-in-Ok : goal.returns-in-Ok
returns-in-Ok g c =
    let same = rw c.in-Some.is at c.unsaved.ensures in
    let all = subst (λ (known : List (Option Heard)). HearAll c.args.voter.now.kept known) (sym same) c.hold.ensures in
    record { on = wrote g.T.Tape c.in-Some.heard (peer_progress_text c.in-Some.heard) _ _ c.args.voter.now _ all refl c.in-Ok.ensures.put refl }

pub returns-in-Err : goal.returns-in-Err
returns-in-Err g c =
    let same = rw c.in-Some.is at c.unsaved.ensures in
    let all = subst (λ (known : List (Option Heard)). HearAll c.args.voter.now.kept known) (sym same) c.hold.ensures in
    record { on = wrote_or_not g.T.Tape c.in-Some.heard (peer_progress_text c.in-Some.heard) _ _ c.args.voter.now all refl c.in-Err.ensures.put }
