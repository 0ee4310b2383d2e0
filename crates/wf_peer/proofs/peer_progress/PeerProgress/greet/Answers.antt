-- Together they are no less than what was heard.
use Rattle.std.proofs.Common.{◌∙◌, ap}
use Rattle.std.specs.Prelude.{Option, Some, slice_set}
use Rattle.wf_peer.specs.Progress.{greeted}
use Rattle.wf_peer.specs.declared.heard.Heard.{Heard}
use Rattle.wf_peer.proofs.Kept.{falls_by_greeting}
use Rattle.wf_peer.proofs.peer_progress.PeerProgress.greet.Goals as goal

pub returns-clause-falls : goal.returns-clause-falls
returns-clause-falls c = falls_by_greeting c.args.self.now c.put.new.self c.args.node c.args.progress c.requires
    (c.put.ensures ∙ ap (λ (q : Heard). slice_set c.args.self.now c.args.node (Some q)) (c.greeted-heard.ensures ∙ ap (λ (h : Option Heard). greeted h c.args.progress) c.heard.ensures))
