-- What a run of a script makes of its input.
use Rattle.std.specs.Io.KnownBytes.{Appends, IsAtEnd}
use Rattle.std.specs.Prelude.{◌≡◌, ◌≤◌, ◌++◌, ℕ, zero, suc, ⊤, false, Option, List, [], length, slice_get, Result, Ok, Err, IfSome}
use Rattle.wf_farm.specs.Farm.{MemoryFarm, Refines}
use Rattle.wf_model.specs.World.{start}
use Rattle.wf_script.specs.Fault.{is_memory}
use Rattle.wf_script.specs.Lines.{line_feeds, most_lines, most_script_bytes}
use Rattle.wf_play.specs.OrderEffect.{PerformsAt}
use Rattle.wf_script.specs.Script.{Script}
use Rattle.wf_play.specs.Report.{WritesAt}
use Rattle.wf_script.specs.Text.{script_of}
use Rattle.wf_play.specs.declared.fault.PlayFault.{PlayFault}
use Rattle.wf_play.specs.declared.fault.PlayFault.TheVariants as play
use Rattle.wf_script.specs.declared.fault.ScriptFault.{ScriptFault}

-- A text that is a script; so it is within the limits of scripts.
pub record IsScriptText (text : List ℕ) : Type 0 where
  pub script : Script
  pub means : script_of text ≡ Ok script
  pub bytes : length text ≤ most_script_bytes
  pub lines : line_feeds text ≤ most_lines

-- an error, allocation failure aside, is the one for which the input, where it is known, is no
-- script
abbrev pub IsFaultOf : Option (List ℕ) → ScriptFault → Type 0
IsFaultOf input fault = is_memory fault ≡ false → IfSome input (λ text. script_of text ≡ Err fault)

-- the same of a run that ends before a script is played
abbrev pub IsStepRejectionOf : Option (List ℕ) → PlayFault → Type 0
IsStepRejectionOf input (play.Script fault) = IsFaultOf input fault
IsStepRejectionOf input play.Read = ⊤
IsStepRejectionOf input play.Write = ⊥
IsStepRejectionOf input play.Wire = ⊥

-- Where a run succeeds, or fails at a write or at a message on its way, the input was read to its
-- end: where it is known, nothing of it is left, and it is a script. An error of the script is the
-- input's own.
abbrev pub ReadsWhole : Option (List ℕ) → Option (List ℕ) → Result (Unit {0}) PlayFault → Type 0
ReadsWhole input left (Ok done) = IfSome input IsScriptText × IsAtEnd left
ReadsWhole input left (Err play.Write) = IfSome input IsScriptText × IsAtEnd left
ReadsWhole input left (Err play.Wire) = IfSome input IsScriptText × IsAtEnd left
ReadsWhole input left (Err (play.Script fault)) = IsFaultOf input fault
ReadsWhole input left (Err play.Read) = ⊤

-- The first n orders of a script are performed, one after the other, each on the farm that the one
-- before left. Their outputs, joined, are one text.
unfoldable pub ArePerformed : Script → ℕ → MemoryFarm → MemoryFarm → List ℕ → Type 0
ArePerformed script zero before after text = (after ≡ before) × (text ≡ [])
ArePerformed script (suc n) before after text =
    (between : MemoryFarm) × (front : List ℕ) × (last : List ℕ) × ArePerformed script n before between front
    × PerformsAt script.maps (slice_get script.orders n) between after × WritesAt script (slice_get script.orders n) between after last × (text ≡ front ++ last)

-- the first n orders were performed, and their output was written
abbrev pub HavePlayed : ℕ → Script → MemoryFarm → MemoryFarm → Option (List ℕ) → Option (List ℕ) → Type 0
HavePlayed n script before after old new = (text : List ℕ) × ArePerformed script n before after text × Appends old new text

-- A script is played whole on a new farm, the model's start, and this is the text that it writes.
pub record IsPlay (script : Script) (text : List ℕ) : Type 0 where
  pub opening : MemoryFarm
  pub closing : MemoryFarm
  pub start : Refines opening (start script.nodes)
  pub fresh : opening.pumped ≡ 0
  pub performed : ArePerformed script (length script.orders) opening closing text

-- A play of the script was written.
abbrev pub WritesPlay : Script → Option (List ℕ) → Option (List ℕ) → Type 0
WritesPlay script old new = (text : List ℕ) × IsPlay script text × Appends old new text

-- The input, where it is known, is a script, and a play of it was written.
abbrev pub PlaysInput : Option (List ℕ) → Option (List ℕ) → Option (List ℕ) → Type 0
PlaysInput input old new = (script : Script) × IfSome input (λ text. script_of text ≡ Ok script) × WritesPlay script old new
