-- An accusation stays, and takes back nothing.
use Rattle.std.proofs.Common.{◌∙◌, ap, sym}
use Rattle.std.specs.Prelude.{Some, slice_set}
use Rattle.wf_peer.specs.declared.heard.Heard.{Heard}
use Rattle.wf_peer.proofs.Kept.{falls_by_accusation}
use Rattle.wf_peer.proofs.peer_progress.PeerProgress.accuse.Goals as goal

pub returns-clause-falls : goal.returns-clause-falls
returns-clause-falls c = falls_by_accusation c.args.self.now c.put.new.self c.args.node c.in-Some.heard c.args.why (sym c.in-Some.ensures)
    (c.put.ensures ∙ ap (λ (q : Heard). slice_set c.args.self.now c.args.node (Some q)) c.accused-heard.ensures)
