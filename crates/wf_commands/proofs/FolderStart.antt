-- What a start on a folder would do.
use Rattle.std.proofs.Common.{◌≡◌, ℕ, List, ◌∷◌, inl, inr, refl, subst, sym}
use Rattle.std.specs.Prelude.{Option, Some, None}
use Rattle.wf_folder.specs.Admission.{IsStart}
use Rattle.wf_folder.specs.NodeAdmission.{IsNodeRejection, IsNodeStart}
use Rattle.wf_folder.specs.declared.admission.Start.{Start}
use Rattle.wf_folder.specs.declared.node_admission.NodeFound.TheVariants as nodes_found
use Rattle.wf_folder.specs.declared.node_admission.NodeRejection.{NodeRejection}
use Rattle.wf_folder.specs.declared.node_file.NodeFile.{NodeFile}
use Rattle.wf_serve.specs.StartCause.{IsStartCause}
use Rattle.wf_serve.specs.TapesTaken.{AreSoundOr, NumberedTape}
use Rattle.wf_serve.specs.declared.event.Cause.{Cause}
use Rattle.wf_serve.specs.declared.survey.Survey.{Survey}
use Rattle.wf_store.specs.Call.{Call, failed, read}
use Rattle.wf_store.specs.declared.file_name.FileName.TheVariants.{Farm}
use Rattle.wf_commands.specs.FolderEnd.{IsFarmState, IsNodeState, IsOwnerOf, IsOwnerRead, IsStateOf, tape_of}
use Rattle.wf_commands.specs.declared.folder_state.FolderState.{FolderState}
use Rattle.wf_commands.specs.declared.folder_state.FolderState.TheVariants as states

-- ---- whose the folder is, by what was read of its file `farm`

pub owner_found : (bytes text : List ℕ) (owner : Option NodeFile) (calls later : List Call) → text ≡ bytes → IsOwnerOf (Some text) owner → later ≡ read Farm (Some bytes) ∷ calls →
    IsOwnerRead owner calls later
owner_found bytes text owner calls later same is call = inl (Some bytes, subst (λ (t : List ℕ). IsOwnerOf (Some t) owner) same is, call)

pub owner_absent : (calls later : List Call) → later ≡ read Farm None ∷ calls → IsOwnerRead None calls later
owner_absent calls later call = inl (None, tt, call)

pub owner_unread : (calls later : List Call) → later ≡ failed ∷ calls → IsOwnerRead None calls later
owner_unread calls later call = inr (refl, call)

module _ (survey : Survey) where
  pub of_farm : (owner : Option NodeFile) (cause : Option Cause) (state : FolderState) → owner ≡ None →
      ((tapes : List NumberedTape) → AreSoundOr tapes cause → IsFarmState survey tapes state) → (tapes : List NumberedTape) → AreSoundOr tapes cause → IsStateOf survey owner tapes state
  of_farm owner cause state none is tapes sound = subst (λ (o : Option NodeFile). IsStateOf survey o tapes state) (sym none) (is tapes sound)

  pub of_node : (owner : Option NodeFile) (file : NodeFile) (cause : Option Cause) (state : FolderState) → owner ≡ Some file →
      ((tapes : List NumberedTape) → AreSoundOr tapes cause → IsNodeState file survey tapes state) → (tapes : List NumberedTape) → AreSoundOr tapes cause → IsStateOf survey owner tapes state
  of_node owner file cause state one is tapes sound = subst (λ (o : Option NodeFile). IsStateOf survey o tapes state) (sym one) (is tapes sound)

  -- ---- the nodes of a farm

  pub farm_starts : (nodes : ℕ) (start : Start) (cause : Option Cause) → cause ≡ None → IsStart nodes survey.found survey.tapes start → (tapes : List NumberedTape) → AreSoundOr tapes cause →
      IsFarmState survey tapes (states.Farm nodes start)
  farm_starts nodes start cause none starts tapes sound = (starts, subst (λ (c : Option Cause). AreSoundOr tapes c) none sound)

  pub farm_with_cause : (nodes : ℕ) (start : Start) (found : Option Cause) (cause : Cause) → found ≡ Some cause → IsStart nodes survey.found survey.tapes start →
      (tapes : List NumberedTape) → AreSoundOr tapes found → IsFarmState survey tapes (states.Rejected cause)
  farm_with_cause nodes start found cause one starts tapes sound = inr (nodes, start, starts, subst (λ (c : Option Cause). AreSoundOr tapes c) one sound)

  pub farm_rejected : (cause : Cause) → IsStartCause survey cause → (tapes : List NumberedTape) → IsFarmState survey tapes (states.Rejected cause)
  farm_rejected cause why tapes = inl why

  -- ---- a node with a file

  pub node_starts : (file now : NodeFile) (cause : Option Cause) → cause ≡ None → IsNodeStart file.nodes (nodes_found.File file) (tape_of file.node survey) now →
      (tapes : List NumberedTape) → AreSoundOr tapes cause → IsNodeState file survey tapes (states.Node file)
  node_starts file now cause none starts tapes sound = (refl, (now, starts), subst (λ (c : Option Cause). AreSoundOr tapes c) none sound)

  pub node_with_cause : (file now : NodeFile) (found : Option Cause) (cause : Cause) → found ≡ Some cause → IsNodeStart file.nodes (nodes_found.File file) (tape_of file.node survey) now →
      (tapes : List NumberedTape) → AreSoundOr tapes found → IsNodeState file survey tapes (states.Rejected cause)
  node_with_cause file now found cause one starts tapes sound = (now, starts, subst (λ (c : Option Cause). AreSoundOr tapes c) one sound)

  pub node_rejected : (file : NodeFile) (rejection : NodeRejection) → IsNodeRejection file.nodes (nodes_found.File file) (tape_of file.node survey) rejection → (tapes : List NumberedTape) →
      IsNodeState file survey tapes (states.NodeRejected rejection)
  node_rejected file rejection why tapes = why
