-- A run's count of failed calls, and that a failed write is the last one.
use Rattle.std.specs.Prelude.{◌≡◌, ◌≢◌, ℕ, List, Result, Ok, Err, false}
use Rattle.wf_block.specs.ReadContract.{is_memory}
use Rattle.wf_script.specs.Fault as script
use Rattle.wf_stream.specs.Effects.{EndsByFailing, Rises}
use Rattle.wf_stream.specs.declared.stream.Sink.{Ghosts as Sink}
use Rattle.wf_commands.specs.declared.fault.RunFault.{RunFault}
use Rattle.wf_commands.specs.declared.fault.RunFault.TheVariants as faults

-- A read error is returned only if a read has failed. A run with a failed read returns that error,
-- or one of allocation failure.
abbrev pub CountsReads : {T : Type 0} → Result T RunFault → ℕ → ℕ → Type 0
CountsReads (Ok x) old new = new ≡ old
CountsReads (Err faults.Read) old new = Rises old new
CountsReads (Err (faults.Map fault)) old new = is_memory fault ≡ false → new ≡ old
CountsReads (Err (faults.Canon fault)) old new = new ≡ old
CountsReads (Err (faults.Script fault)) old new = script.is_memory fault ≡ false → new ≡ old
CountsReads (Err (faults.Tape fault)) old new = new ≡ old
CountsReads (Err faults.Write) old new = new ≡ old
CountsReads (Err faults.Wire) old new = new ≡ old
CountsReads (Err faults.Serve) old new = new ≡ old

-- A write error is returned iff a write has failed.
abbrev pub CountsWrites : {T : Type 0} → Result T RunFault → ℕ → ℕ → Type 0
CountsWrites (Err faults.Write) old new = Rises old new
CountsWrites _ old new = new ≡ old

-- If a write has failed, of any writer, it was the last call, and some bytes were written without a
-- failure before it: no text whose write failed is written once more.
unfoldable pub FailsLast : {K : Type 0} → Sink K → K → K → Type 0
FailsLast sinks old new = sinks.failures new ≢ sinks.failures old → (bytes : List ℕ) × EndsByFailing sinks.written sinks.failures sinks.fails bytes old new
