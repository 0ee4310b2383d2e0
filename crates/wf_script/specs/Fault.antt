-- Why a text is no script, and at which line.
use Rattle.std.specs.Prelude.{◌≡◌, ◌≤◌, ℕ, max, Bool, true, false}
use Rattle.wf_script.specs.declared.fault.ScriptFault.{ScriptFault}
use Rattle.wf_script.specs.declared.fault.ScriptFault.TheVariants as script
use Rattle.wf_script.specs.declared.fault.Wrong.{Wrong}
use Rattle.wf_script.specs.declared.fault.Wrong.TheVariants as wrongs

-- whether the error is allocation failure
abbrev pub is_memory : ScriptFault → Bool
is_memory (script.Memory line) = true
is_memory (script.BadLine line) = false
is_memory (script.OverLimit line) = false
is_memory (script.BadMap line) = false

abbrev pub IsScriptMemory : ScriptFault → Type 0
IsScriptMemory fault = is_memory fault ≡ true

-- the error of a line, as the error of the script at the line of that number
abbrev pub fault_of : Wrong → ℕ → ScriptFault
fault_of wrongs.Memory line = script.Memory line
fault_of wrongs.BadLine line = script.BadLine line
fault_of wrongs.OverLimit line = script.OverLimit line
fault_of wrongs.BadMap line = script.BadMap line

-- the line of an error
abbrev pub line_of : ScriptFault → ℕ
line_of (script.Memory line) = line
line_of (script.BadLine line) = line
line_of (script.OverLimit line) = line
line_of (script.BadMap line) = line

-- The line of an error is one of `count` lines; the first one, where there is none.
pub record IsAtLine (count : ℕ) (fault : ScriptFault) : Type 0 where
  pub some : 1 ≤ line_of fault
  pub most : line_of fault ≤ max 1 count
