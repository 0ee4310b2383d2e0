-- What was read of the files about replacements.
use Rattle.std.proofs.Common.{◌≡◌, ◌≢◌, ◌∙◌, ℕ, List, [], ◌∷◌, ap, subst, sym}
use Rattle.std.specs.Prelude.{Option, Some, Result, Ok, Err, length}
use Rattle.wf_folder.specs.declared.node_file.NodeFile.{NodeFile}
use Rattle.wf_peer_connections.specs.declared.joiner.Joiner.{Joiner}
use Rattle.wf_node_folder.specs.ReplacementFiles.{IsJoinsBad, IsJoinsFault, IsJoinsTextFault, IsNoJoining, IsOwnJoining, IsReplacedBad, IsReplacedFault, IsReplacementCause}
use Rattle.wf_node_folder.specs.declared.fault.CommandFault.{CommandFault}
use Rattle.wf_node_folder.specs.declared.fault.CommandFault.TheVariants as faults
use Rattle.wf_node_folder.specs.declared.replacement_fault.ReplacementFault.{ReplacementFault}
use Rattle.wf_node_folder.specs.declared.replacement_fault.ReplacementFault.TheVariants as causes
use Rattle.wf_rejoin.specs.JoiningText.{IsJoins, joins_text}
use Rattle.wf_rejoin.specs.Lines.{AreAll}
use Rattle.wf_rejoin.specs.ReplacementsText.{IsEntry, replaced_text}
use Rattle.wf_rejoin.specs.declared.fault.JoiningFault.{JoiningFault}
use Rattle.wf_rejoin.specs.declared.fault.ReplacementsFault.{ReplacementsFault}
use Rattle.wf_rejoin.specs.declared.joining.Joining.{Joining}
use Rattle.wf_rejoin.specs.declared.replacement.Replacement.{Replacement}
use Rattle.wf_store.specs.Call.{Call, read}
use Rattle.wf_store.specs.declared.file_name.FileName.TheVariants.{Joins, Replaced}

-- ---- bytes

-- a folder that joins is what its bytes say
module _ (joining : Joining) (joiner : Joiner) (same : joiner.joining ≡ joining) where
  pub joins_by : (bytes : List ℕ) → IsJoins joining → bytes ≡ joins_text joining → IsJoins joiner.joining × (bytes ≡ joins_text joiner.joining)
  joins_by bytes is text = (subst IsJoins (sym same) is, text ∙ ap joins_text (sym same))

  pub own_by : (file : NodeFile) → IsOwnJoining file joining → IsOwnJoining file joiner.joining
  own_by file own = subst (IsOwnJoining file) (sym same) own

-- bytes that aren't read as what a folder was told say nothing that it could be
pub no_joining : (bytes : List ℕ) (result : Result Joining JoiningFault) (fault : JoiningFault) → bytes ≢ [] → result ≡ Err fault
    → ((joining : Joining) → IsJoins joining → bytes ≡ joins_text joining → result ≡ Ok joining) → IsNoJoining bytes
no_joining bytes result fault some failed each = record {
  some = some;
  none = λ joining is text. absurd (let clash : Err fault ≡ Ok joining = sym failed ∙ each joining is text in cc);
}

-- ---- files

pub replaced_bad : (bytes : List ℕ) (old new : List Call) (result : Result (List (Option Replacement)) ReplacementsFault) (fault : ReplacementsFault) → new ≡ read Replaced (Some bytes) ∷ old → result ≡ Err fault
    → ((known : List (Option Replacement)) → length known ≡ 64 → AreAll IsEntry known → bytes ≡ replaced_text known → result ≡ Ok known) → IsReplacedBad new
replaced_bad bytes old new result fault is failed each = record {
  bytes = bytes;
  earlier = old;
  calls = is;
  none = λ known all entries text. absurd (let clash : Err fault ≡ Ok known = sym failed ∙ each known all entries text in cc);
}

pub joins_bad : (file : NodeFile) (bytes : List ℕ) (old new : List Call) (why : ReplacementFault) → new ≡ read Joins (Some bytes) ∷ old → IsJoinsTextFault file bytes why → IsJoinsBad file why new
joins_bad file bytes old new why is bad = record { bytes = bytes; earlier = old; calls = is; bad = bad }

-- ---- either of them

pub cause_of_replaced : (file : NodeFile) (new : List Call) (fault : CommandFault) → IsReplacedFault new fault → IsReplacementCause file new fault
cause_of_replaced file new (faults.Replacement (causes.Replaced why)) is = is
cause_of_replaced file new (faults.Replacement (causes.Joins why)) is = absurd is
cause_of_replaced file new (faults.Replacement causes.OtherFolder) is = absurd is
cause_of_replaced file new fault is = is

pub cause_of_joins : (file : NodeFile) (new : List Call) (fault : CommandFault) → IsJoinsFault file new fault → IsReplacementCause file new fault
cause_of_joins file new (faults.Replacement (causes.Replaced why)) is = absurd is.bad
cause_of_joins file new (faults.Replacement (causes.Joins why)) is = is
cause_of_joins file new (faults.Replacement causes.OtherFolder) is = is
cause_of_joins file new fault is = is
