-- Why the nodes aren't served.
use Rattle.std.specs.Prelude.{◌≡◌, ℕ, Result, Ok, Err}
use Rattle.wf_stream.specs.Effects.{Rises}
use Rattle.wf_serve.specs.declared.fault.ServeFault.{ServeFault}
use Rattle.wf_serve.specs.declared.fault.ServeFault.TheVariants as faults

-- The error is `Write` iff a write has failed.
abbrev pub CountsWrites : {T : Type 0} → Result T ServeFault → ℕ → ℕ → Type 0
CountsWrites (Err faults.Write) old new = Rises old new
CountsWrites (Err faults.Start) old new = new ≡ old
CountsWrites (Ok x) old new = new ≡ old
