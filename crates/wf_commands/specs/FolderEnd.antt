-- The last line of a folder's listing: what a start on the folder would do.
use Rattle.std.specs.Prelude.{◌≡◌, ◌==◌, ◌⊎◌, ◌++◌, Bool, true, if◌then◌else◌, List, [], ◌∷◌, Option, Some, None, ℕ, codes, decimal, slice_index_or}
use Rattle.wf_folder.specs.Admission.{IsStart}
use Rattle.wf_folder.specs.NodeAdmission.{IsNodeRejection, IsNodeStart}
use Rattle.wf_folder.specs.NodeFile.{IsNodeFile, IsTextOf}
use Rattle.wf_folder.specs.declared.node_admission.NodeFound.TheVariants as nodes_found
use Rattle.wf_serve.specs.declared.survey.Survey.{Survey}
use Rattle.wf_folder.specs.declared.node_file.NodeFile.{NodeFile}
use Rattle.wf_folder.specs.declared.presence.Presence.{Presence}
use Rattle.wf_folder.specs.declared.presence.Presence.TheVariants.{Absent}
use Rattle.wf_folder.specs.declared.farm_file.Beginning.{Beginning}
use Rattle.wf_folder.specs.declared.farm_file.Beginning.TheVariants as beginnings
use Rattle.wf_folder.specs.declared.admission.Start.{Start}
use Rattle.wf_folder.specs.declared.admission.Start.TheVariants as starts
use Rattle.wf_serve.specs.StartCause.{IsStartCause}
use Rattle.wf_serve.specs.TapesTaken.{AreSound, IsTapeCause, NumberedTape}
use Rattle.wf_store.specs.Call.{Call, failed, read}
use Rattle.wf_store.specs.declared.file_name.FileName.TheVariants.{Farm}
use Rattle.wf_commands.specs.declared.folder_state.FolderState.{FolderState}
use Rattle.wf_commands.specs.declared.folder_state.FolderState.TheVariants as states

-- the line of a new folder
abbrev pub new_line : List ℕ
new_line = codes "new, no tape has a byte\n"

-- of one that so many nodes would take over
abbrev pub taken_over_line : ℕ → List ℕ
taken_over_line nodes = codes "whole, " ++ decimal nodes ++ codes " tapes, no file farm\n"

-- of one that is a farm's own, by how its tapes began
abbrev pub own_line : ℕ → Beginning → List ℕ
own_line nodes beginnings.Empty = codes "whole, " ++ decimal nodes ++ codes " tapes of one farm, began empty\n"
own_line nodes beginnings.Found = codes "whole, " ++ decimal nodes ++ codes " tapes of one farm, began found\n"

-- of one that a node of a farm has for itself
abbrev pub node_line : ℕ → List ℕ
node_line node = codes "whole, the tape of node " ++ decimal node ++ codes "\n"

-- of a rejected start, with why
abbrev pub rejection_line : List ℕ → List ℕ
rejection_line why = codes "not whole, " ++ why ++ codes "\n"

-- the tape of a node in a folder
abbrev pub tape_of : ℕ → Survey → Presence
tape_of node survey = slice_index_or survey.tapes node Absent

-- ---- whose the folder is

-- the node that has the folder for itself, by the bytes of its file `farm`: none if it has no such
-- file, or if it isn't a node's
abbrev pub IsOwnerOf : Option (List ℕ) → Option NodeFile → Type 0
IsOwnerOf None None = Unit {0}
IsOwnerOf None (Some file) = ⊥
IsOwnerOf (Some bytes) None = (file : NodeFile) → IsNodeFile file → ¬ IsTextOf bytes file
IsOwnerOf (Some bytes) (Some file) = IsNodeFile file × IsTextOf bytes file

-- the file was read, and says so; or it can't be read, and nobody is known to
abbrev pub IsOwnerRead : Option NodeFile → List Call → List Call → Type 0
IsOwnerRead owner calls later = ((bytes : Option (List ℕ)) × IsOwnerOf bytes owner × (later ≡ read Farm bytes ∷ calls)) ⊎ ((owner ≡ None) × (later ≡ failed ∷ calls))

-- ---- what a start on a folder would do: of a node that has it for itself, or of a farm's nodes

-- a tape that has to be sound: the node's own, or each tape of a farm's folder
abbrev pub is_own : Option NodeFile → ℕ → Bool
is_own None number = true
is_own (Some file) number = file.node == number

unfoldable pub own_tapes : Option NodeFile → List NumberedTape → List NumberedTape
own_tapes owner [] = []
own_tapes owner (tape ∷ tapes) = if is_own owner tape.0 then tape ∷ own_tapes owner tapes else own_tapes owner tapes

-- The nodes of a farm start by what is in the folder, and the tapes are sound; or they don't by
-- what is in it; or they would, and a tape is why they don't.
abbrev pub IsFarmState : Survey → List NumberedTape → FolderState → Type 0
IsFarmState survey tapes (states.Farm nodes start) = IsStart nodes survey.found survey.tapes start × AreSound tapes
IsFarmState survey tapes (states.Rejected cause) =
    IsStartCause survey cause ⊎ ((nodes : ℕ) × (start : Start) × IsStart nodes survey.found survey.tapes start × IsTapeCause tapes cause)
IsFarmState survey tapes (states.Node file) = ⊥
IsFarmState survey tapes (states.NodeRejected rejection) = ⊥

-- So of the node with a file, and its tape.
abbrev pub IsNodeState : NodeFile → Survey → List NumberedTape → FolderState → Type 0
IsNodeState file survey tapes (states.Farm nodes start) = ⊥
IsNodeState file survey tapes (states.Rejected cause) =
    (now : NodeFile) × IsNodeStart file.nodes (nodes_found.File file) (tape_of file.node survey) now × IsTapeCause tapes cause
IsNodeState file survey tapes (states.Node own) =
    (own ≡ file) × ((now : NodeFile) × IsNodeStart file.nodes (nodes_found.File file) (tape_of file.node survey) now) × AreSound tapes
IsNodeState file survey tapes (states.NodeRejected rejection) = IsNodeRejection file.nodes (nodes_found.File file) (tape_of file.node survey) rejection

-- What is in the folder, whose it is, and what its tapes hold decide what a start would do.
abbrev pub IsStateOf : Survey → Option NodeFile → List NumberedTape → FolderState → Type 0
IsStateOf survey None tapes state = IsFarmState survey tapes state
IsStateOf survey (Some file) tapes state = IsNodeState file survey tapes state

-- The line of each state. What a rejection says after its first words is the text of its cause.
abbrev pub IsLastLine : FolderState → List ℕ → Type 0
IsLastLine (states.Farm nodes starts.New) line = line ≡ new_line
IsLastLine (states.Farm nodes starts.TakenOver) line = line ≡ taken_over_line nodes
IsLastLine (states.Farm nodes (starts.Own file)) line = line ≡ own_line nodes file.beginning
IsLastLine (states.Node file) line = line ≡ node_line file.node
IsLastLine (states.Rejected cause) line = (why : List ℕ) × (line ≡ rejection_line why)
IsLastLine (states.NodeRejected rejection) line = (why : List ℕ) × (line ≡ rejection_line why)
