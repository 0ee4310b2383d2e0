-- What a node's folder says of replacements: its files `replaced` and `joins`.
use Rattle.std.specs.Prelude.{◌≡◌, ◌≢◌, ℕ, List, [], ◌∷◌, Option, Some, None, IfSome, length, option_map, replicate}
use Rattle.wf_folder.specs.declared.node_file.NodeFile.{NodeFile}
use Rattle.wf_peer_connections.specs.declared.joiner.Joiner.{Joiner}
use Rattle.wf_node_folder.specs.Fault.{IsFromSystem}
use Rattle.wf_store.specs.Texts.{is_joins, is_replaced, text_in}
use Rattle.wf_node_folder.specs.declared.fault.CommandFault.{CommandFault}
use Rattle.wf_node_folder.specs.declared.fault.CommandFault.TheVariants as faults
use Rattle.wf_node_folder.specs.declared.replacement_fault.ReplacementFault.{ReplacementFault}
use Rattle.wf_node_folder.specs.declared.replacement_fault.ReplacementFault.TheVariants as causes
use Rattle.wf_node_folder.specs.declared.replacement_files.ReplacementFiles.{ReplacementFiles}
use Rattle.wf_rejoin.specs.JoiningText.{IsJoins, joins_text}
use Rattle.wf_rejoin.specs.Lines.{AreAll}
use Rattle.wf_rejoin.specs.ReplacementsText.{IsEntry, replaced_text}
use Rattle.wf_rejoin.specs.declared.joining.Joining.{Joining}
use Rattle.wf_rejoin.specs.declared.replacement.Replacement.{Replacement}
use Rattle.wf_store.specs.Call.{Call, read}
use Rattle.wf_store.specs.declared.file_name.FileName.TheVariants as names

-- ---- what bytes say

-- those of a file `replaced`: no replacement is known if there is no such file
abbrev pub IsReplacedIn : Option (List ℕ) → List (Option Replacement) → Type 0
IsReplacedIn None known = known ≡ replicate 64 None
IsReplacedIn (Some bytes) known = (length known ≡ 64) × AreAll IsEntry known × (bytes ≡ replaced_text known)

-- those of a file `joins`: the folder doesn't join if there is no such file, or an empty one
abbrev pub IsJoinsIn : Option (List ℕ) → Option Joining → Type 0
IsJoinsIn None joining = joining ≡ None
IsJoinsIn (Some bytes) None = bytes ≡ []
IsJoinsIn (Some bytes) (Some joining) = IsJoins joining × (bytes ≡ joins_text joining)

-- the folder that joins is that of a file `farm`
pub record IsOwnJoining (file : NodeFile) (joining : Joining) : Type 0 where
  pub node : joining.node ≡ file.node
  pub nodes : joining.nodes ≡ file.nodes
  pub mark : joining.replacement.mark ≡ file.mark

-- ---- what was read

-- the file `replaced` was read, and says this
pub record IsReplacedFound (known : List (Option Replacement)) (old new : List Call) : Type 0 where
  pub bytes : Option (List ℕ)
  pub calls : new ≡ read names.Replaced bytes ∷ old
  pub is : IsReplacedIn bytes known

-- the file `joins` was read, and says this of the folder with this file `farm`
pub record IsJoinsFound (file : NodeFile) (joiner : Option Joiner) (old new : List Call) : Type 0 where
  pub bytes : Option (List ℕ)
  pub calls : new ≡ read names.Joins bytes ∷ old
  pub is : IsJoinsIn bytes (option_map (λ j. j.joining) joiner)
  pub own : IfSome joiner (λ j. IsOwnJoining file j.joining)

-- both were
pub record AreFilesFound (file : NodeFile) (files : ReplacementFiles) (old new : List Call) : Type 0 where
  pub mid : List Call
  pub replaced : IsReplacedFound files.known old mid
  pub joins : IsJoinsFound file files.joining mid new

-- ---- why nothing is known of them

-- the file `replaced` was read last, and says nothing that it could
pub record IsReplacedBad (new : List Call) : Type 0 where
  pub bytes : List ℕ
  pub earlier : List Call
  pub calls : new ≡ read names.Replaced (Some bytes) ∷ earlier
  pub none : (known : List (Option Replacement)) → length known ≡ 64 → AreAll IsEntry known → bytes ≢ replaced_text known

-- these bytes of a file `joins` aren't empty, and say nothing that they could
pub record IsNoJoining (bytes : List ℕ) : Type 0 where
  pub some : bytes ≢ []
  pub none : (joining : Joining) → IsJoins joining → bytes ≢ joins_text joining

-- they are those of another folder
pub record IsJoiningOfOther (file : NodeFile) (bytes : List ℕ) : Type 0 where
  pub joining : Joining
  pub is : IsJoins joining
  pub text : bytes ≡ joins_text joining
  pub other : ¬ IsOwnJoining file joining

-- why the bytes of a file `joins` aren't taken
abbrev pub IsJoinsTextFault : NodeFile → List ℕ → ReplacementFault → Type 0
IsJoinsTextFault file bytes (causes.Replaced why) = ⊥
IsJoinsTextFault file bytes (causes.Joins why) = IsNoJoining bytes
IsJoinsTextFault file bytes causes.OtherFolder = IsJoiningOfOther file bytes

-- the file `joins` was read last, and isn't taken
pub record IsJoinsBad (file : NodeFile) (why : ReplacementFault) (new : List Call) : Type 0 where
  pub bytes : List ℕ
  pub earlier : List Call
  pub calls : new ≡ read names.Joins (Some bytes) ∷ earlier
  pub bad : IsJoinsTextFault file bytes why

abbrev pub IsBadFile : NodeFile → ReplacementFault → List Call → Type 0
IsBadFile file (causes.Replaced why) new = IsReplacedBad new
IsBadFile file (causes.Joins why) new = IsJoinsBad file (causes.Joins why) new
IsBadFile file causes.OtherFolder new = IsJoinsBad file causes.OtherFolder new

-- why nothing is known by the file `replaced`, by the file `joins`, and by either: it is bad, or
-- the system failed
abbrev pub IsReplacedFault : List Call → CommandFault → Type 0
IsReplacedFault new (faults.Replacement (causes.Replaced why)) = IsReplacedBad new
IsReplacedFault new (faults.Replacement why) = ⊥
IsReplacedFault new fault = IsFromSystem fault

abbrev pub IsJoinsFault : NodeFile → List Call → CommandFault → Type 0
IsJoinsFault file new (faults.Replacement why) = IsJoinsBad file why new
IsJoinsFault file new fault = IsFromSystem fault

abbrev pub IsReplacementCause : NodeFile → List Call → CommandFault → Type 0
IsReplacementCause file new (faults.Replacement why) = IsBadFile file why new
IsReplacementCause file new fault = IsFromSystem fault

-- The files say what was last read of them, or written to them, of the folder with this file
-- `farm`.
pub record AreNoted (file : NodeFile) (files : ReplacementFiles) (calls : List Call) : Type 0 where
  pub replaced : IsReplacedIn (text_in is_replaced calls) files.known
  pub joins : IsJoinsIn (text_in is_joins calls) (option_map (λ joiner. joiner.joining) files.joining)
  pub own : IfSome files.joining (λ joiner. IsOwnJoining file joiner.joining)
