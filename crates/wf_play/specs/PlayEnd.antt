-- How a play of a script ends before its last order, and what is written of it by then: a beginning
-- of it.
use Rattle.std.specs.Io.KnownBytes.{Appends, Keeps}
use Rattle.std.specs.Prelude.{◌≡◌, ◌⊎◌, ◌++◌, ℕ, true, Option, Some, Ok, List, slice_get, take, IfSome}
use Rattle.wf_farm.specs.Farm.{MemoryFarm, Refines}
use Rattle.wf_model.specs.World.{start}
use Rattle.wf_play.specs.OrderEffect.{PerformsAt, fault_at, may_use_at}
use Rattle.wf_play.specs.ScriptRun.{ArePerformed}
use Rattle.wf_play.specs.Report.{WritesAt}
use Rattle.wf_play.specs.declared.fault.PlayFault.{PlayFault}
use Rattle.wf_play.specs.declared.fault.PlayFault.TheVariants as play
use Rattle.wf_script.specs.Script.{Script}
use Rattle.wf_script.specs.Text.{script_of}
use Rattle.wf_script.specs.declared.fault.ScriptFault.{ScriptFault}
use Rattle.wf_script.specs.declared.fault.ScriptFault.TheVariants as script_fault

-- An allocation failed at the order after the first `count` ones, and the error is that of its
-- line. What these wrote is written, and nothing more.
pub record StopsAtOrder (script : Script) (before : MemoryFarm) (old new : Option (List ℕ)) (fault : ScriptFault) : Type 0 where
  pub count : ℕ
  pub between : MemoryFarm
  pub text : List ℕ
  pub performed : ArePerformed script count before between text
  pub line : fault_at (slice_get script.orders count) ≡ Some fault
  pub written : Appends old new text

-- A message wasn't carried at the order after the first `count` ones, which carries messages. What
-- these wrote is written, and nothing more.
pub record LosesAtOrder (script : Script) (before : MemoryFarm) (old new : Option (List ℕ)) : Type 0 where
  pub count : ℕ
  pub between : MemoryFarm
  pub text : List ℕ
  pub performed : ArePerformed script count before between text
  pub carries : may_use_at (slice_get script.orders count) between ≡ true
  pub written : Appends old new text

-- A write failed after the order after the first `count` ones. What these wrote is written, and
-- then a beginning of what that order writes.
pub record BreaksOffAtOrder (script : Script) (before : MemoryFarm) (old new : Option (List ℕ)) : Type 0 where
  pub count : ℕ
  pub between : MemoryFarm
  pub after : MemoryFarm
  pub text : List ℕ
  pub last : List ℕ
  pub performed : ArePerformed script count before between text
  pub does : PerformsAt script.maps (slice_get script.orders count) between after
  pub reports : WritesAt script (slice_get script.orders count) between after last
  -- the number of bytes of that beginning
  pub some : ℕ
  pub written : Appends old new (text ++ take some last)

-- a play of the script from this farm on ended with this error
abbrev pub IsPlayEnded : Script → MemoryFarm → Option (List ℕ) → Option (List ℕ) → PlayFault → Type 0
IsPlayEnded script before old new (play.Script fault) = StopsAtOrder script before old new fault
IsPlayEnded script before old new play.Read = ⊥
IsPlayEnded script before old new play.Write = BreaksOffAtOrder script before old new
IsPlayEnded script before old new play.Wire = LosesAtOrder script before old new

-- A play of the script on a new farm, the model's start, ended with this error.
pub record IsPlayedFromStart (script : Script) (old new : Option (List ℕ)) (fault : PlayFault) : Type 0 where
  pub opening : MemoryFarm
  pub start : Refines opening (start script.nodes)
  pub fresh : opening.pumped ≡ 0
  pub ended : IsPlayEnded script opening old new fault

-- for the crate's own contracts: the same, or an allocation failed before the farm was made
abbrev pub MayBeBegun : Script → Option (List ℕ) → Option (List ℕ) → PlayFault → Type 0
MayBeBegun script old new fault = ((fault ≡ play.Script (script_fault.Memory 1)) × Keeps old new) ⊎ IsPlayedFromStart script old new fault

-- the input, where it is known, is a script, and a play of it ended with this error
abbrev pub IsInputBegun : Option (List ℕ) → Option (List ℕ) → Option (List ℕ) → PlayFault → Type 0
IsInputBegun input old new fault = (script : Script) × IfSome input (λ text. script_of text ≡ Ok script) × IsPlayedFromStart script old new fault

-- What is written before an error. Where a write failed or a message wasn't carried, it is a
-- beginning of the play of the input's script. Where an allocation failed, likewise; or it is
-- nothing, as where the input is no script or can't be read.
abbrev pub WritesBeginning : Option (List ℕ) → Option (List ℕ) → Option (List ℕ) → PlayFault → Type 0
WritesBeginning input old new (play.Script fault) = Keeps old new ⊎ IsInputBegun input old new (play.Script fault)
WritesBeginning input old new play.Read = Keeps old new
WritesBeginning input old new play.Write = IsInputBegun input old new play.Write
WritesBeginning input old new play.Wire = IsInputBegun input old new play.Wire
