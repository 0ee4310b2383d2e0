-- What was read of a folder's files.
use Rattle.std.proofs.Common.{◌≡◌, ℕ, List, ◌∷◌, sym, ◌∙◌}
use Rattle.std.specs.Prelude.{Option, Some, Result, Ok, Err, length}
use Rattle.wf_node_folder.specs.Folder.{IsHeardBad}
use Rattle.wf_peer.specs.PeerProgressText.{ArePeerProgress, IsProgressTextOf}
use Rattle.wf_peer.specs.declared.fault.PeerProgressFault.{PeerProgressFault}
use Rattle.wf_peer.specs.declared.heard.Heard.{Heard as HeardOfNode}
use Rattle.wf_store.specs.Call.{Call, read}
use Rattle.wf_store.specs.declared.file_name.FileName.TheVariants.{Heard}

-- bytes that aren't read as what was heard say nothing that it could
pub heard_bad : (bytes : List ℕ) (old new : List Call) (result : Result (List (Option HeardOfNode)) PeerProgressFault) (fault : PeerProgressFault) → new ≡ read Heard (Some bytes) ∷ old → result ≡ Err fault
    → ((known : List (Option HeardOfNode)) → length known ≡ 64 → ArePeerProgress known → IsProgressTextOf bytes known → result ≡ Ok known) → IsHeardBad new
heard_bad bytes old new result fault is failed each = record {
  bytes = bytes;
  earlier = old;
  calls = is;
  none = λ known all sound text. absurd (let clash : Err fault ≡ Ok known = sym failed ∙ each known all sound text in cc);
}
