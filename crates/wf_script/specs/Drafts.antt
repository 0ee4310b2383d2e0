-- What the functions that read parts of a script leave to be read.
use Rattle.std.specs.Prelude.{◌≡◌, false, ℕ, List, Some, None, Result, Ok, Err}
use Rattle.wf_script.specs.Fault.{fault_of}
use Rattle.wf_script.specs.Lines.{Lines}
use Rattle.wf_script.specs.ReadContract.{◌>>=◌, at_line, wants_memory}
use Rattle.wf_script.specs.Text.{ScriptState, begins, closed, on_from}
use Rattle.wf_script.specs.declared.fault.Wrong.{Wrong}

-- Whatever the maps and orders so far, and whatever the name and the line of a map that begins:
-- these lines close it with this text, and the others are left.
abbrev pub Closes : {X : Type 0} → (X → List ℕ) → Result X Wrong → Lines → Lines → Type 0
Closes view (Ok text) old new = (n : ℕ) (name : List ℕ) (s : ScriptState) → on_from (Some (begins n name)) s old ≡ at_line n (closed name (view text) s) >>= (λ t. on_from None t new)
Closes view (Err wrong) old new = wants_memory wrong ≡ false → (n : ℕ) (name : List ℕ) (s : ScriptState) → on_from (Some (begins n name)) s old ≡ Err (fault_of wrong n)
