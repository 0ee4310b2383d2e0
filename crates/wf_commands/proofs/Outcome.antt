-- From what is written about a definition, or a read error, to the outcome of a run.
use Rattle.std.proofs.Common.{◌≡◌, ◌∙◌, ℕ, List, true, false, sym, refl}
use Rattle.std.specs.Prelude.{Option, Result, Ok, Err}
use Rattle.wf_def.specs.Definition.{Definition}
use Rattle.wf_def.specs.Limits.{IsWithinLimits}
use Rattle.wf_mapfile.specs.Meaning.{Means}
use Rattle.wf_spelling.specs.declared.fault.CanonFault.{CanonFault}
use Rattle.wf_commands.specs.Run.{IsReadingFault, IsOutputWriting, IsWritingOf, IsDefinitionOutcome, OfInput}
use Rattle.wf_commands.specs.FailureCount.{CountsReads, CountsWrites}
use Rattle.wf_commands.specs.declared.fault.RunFault.{RunFault}
use Rattle.wf_commands.specs.declared.fault.RunFault.TheVariants as faults
use Rattle.wf_stream.specs.KnownTheorems.{keeps_same}

module _ (HasOutput : Definition → List ℕ → Type 0) (rejects : CanonFault → Definition → Type 0) (input old new : Option (List ℕ)) where
  pub written_outcome : (result : Result (Unit {0}) RunFault) (d : Definition) (bytes : List ℕ) → OfInput (λ text. Means text d) input → IsWithinLimits d
      → HasOutput d bytes → IsOutputWriting bytes (λ fault. rejects fault d) old new result → IsDefinitionOutcome HasOutput rejects input old new result
  written_outcome (Ok done) d bytes means within has writes = (d, means, within, (bytes, has, writes))
  written_outcome (Err faults.Write) d bytes means within has writes = (d, means, within, (bytes, has, writes))
  written_outcome (Err (faults.Canon fault)) d bytes means within has writes = ((d, means, within, writes.0), writes.1)
  written_outcome (Err (faults.Map fault)) d bytes means within has writes =
      (λ other. let clash : true ≡ false = sym writes.0 ∙ other in cc, writes.1)
  written_outcome (Err faults.Read) d bytes means within has writes = absurd writes
  written_outcome (Err (faults.Script fault)) d bytes means within has writes = absurd writes
  written_outcome (Err (faults.Tape fault)) d bytes means within has writes = absurd writes
  written_outcome (Err faults.Serve) d bytes means within has writes = absurd writes
  written_outcome (Err faults.Wire) d bytes means within has writes = absurd writes

  pub fault_outcome : (fault : RunFault) → IsReadingFault input fault → IsDefinitionOutcome HasOutput rejects input old old (Err fault)
  fault_outcome (faults.Map fault) why = (why, keeps_same old)
  fault_outcome (faults.Canon fault) why = absurd why
  fault_outcome (faults.Script fault) why = absurd why
  fault_outcome (faults.Tape fault) why = absurd why
  fault_outcome faults.Read why = keeps_same old
  fault_outcome faults.Write why = absurd why
  fault_outcome faults.Serve why = absurd why
  fault_outcome faults.Wire why = absurd why

-- the same for one of several outputs
pub one_written_outcome : (HasOutput : Definition → List ℕ → Type 0) (input old new : Option (List ℕ)) (result : Result (Unit {0}) RunFault) (d : Definition)
    → OfInput (λ text. Means text d) input → IsWithinLimits d → IsWritingOf (HasOutput d) old new result → IsDefinitionOutcome HasOutput (λ _ _. ⊥) input old new result
one_written_outcome HasOutput input old new (Ok done) d means within writes = (d, means, within, writes)
one_written_outcome HasOutput input old new (Err faults.Write) d means within writes = (d, means, within, writes)
one_written_outcome HasOutput input old new (Err (faults.Canon fault)) d means within writes = absurd writes
one_written_outcome HasOutput input old new (Err (faults.Map fault)) d means within writes =
    (λ other. let clash : true ≡ false = sym writes.0 ∙ other in cc, writes.1)
one_written_outcome HasOutput input old new (Err faults.Read) d means within writes = absurd writes
one_written_outcome HasOutput input old new (Err (faults.Script fault)) d means within writes = absurd writes
one_written_outcome HasOutput input old new (Err (faults.Tape fault)) d means within writes = absurd writes
one_written_outcome HasOutput input old new (Err faults.Serve) d means within writes = absurd writes
one_written_outcome HasOutput input old new (Err faults.Wire) d means within writes = absurd writes

-- what is written of an output is written of one of them
pub one_written : (IsOutput : List ℕ → Type 0) (bytes : List ℕ) (old new : Option (List ℕ)) (result : Result (Unit {0}) RunFault) → IsOutput bytes
    → IsOutputWriting bytes (λ _. ⊥) old new result → IsWritingOf IsOutput old new result
one_written IsOutput bytes old new (Ok done) is writes = (bytes, is, writes)
one_written IsOutput bytes old new (Err faults.Write) is writes = (bytes, is, writes)
one_written IsOutput bytes old new (Err (faults.Canon fault)) is writes = absurd writes.0
one_written IsOutput bytes old new (Err (faults.Map fault)) is writes = writes
one_written IsOutput bytes old new (Err faults.Read) is writes = absurd writes
one_written IsOutput bytes old new (Err (faults.Script fault)) is writes = absurd writes
one_written IsOutput bytes old new (Err (faults.Tape fault)) is writes = absurd writes
one_written IsOutput bytes old new (Err faults.Serve) is writes = absurd writes
one_written IsOutput bytes old new (Err faults.Wire) is writes = absurd writes

-- after the input was read no read fails
pub no_more_reads : (bytes : List ℕ) (rejects : CanonFault → Type 0) (old new : Option (List ℕ)) (result : Result (Unit {0}) RunFault)
    (before after : ℕ) → IsOutputWriting bytes rejects old new result → after ≡ before → CountsReads result before after
no_more_reads bytes rejects old new (Ok done) before after writes same = same
no_more_reads bytes rejects old new (Err faults.Write) before after writes same = same
no_more_reads bytes rejects old new (Err (faults.Canon fault)) before after writes same = same
no_more_reads bytes rejects old new (Err (faults.Map fault)) before after writes same = λ other. same
no_more_reads bytes rejects old new (Err faults.Read) before after writes same = absurd writes
no_more_reads bytes rejects old new (Err (faults.Script fault)) before after writes same = absurd writes
no_more_reads bytes rejects old new (Err (faults.Tape fault)) before after writes same = absurd writes
no_more_reads bytes rejects old new (Err faults.Serve) before after writes same = absurd writes
no_more_reads bytes rejects old new (Err faults.Wire) before after writes same = absurd writes

pub no_more_reads_of_one : (IsOutput : List ℕ → Type 0) (old new : Option (List ℕ)) (result : Result (Unit {0}) RunFault) (before after : ℕ)
    → IsWritingOf IsOutput old new result → after ≡ before → CountsReads result before after
no_more_reads_of_one IsOutput old new (Ok done) before after writes same = same
no_more_reads_of_one IsOutput old new (Err faults.Write) before after writes same = same
no_more_reads_of_one IsOutput old new (Err (faults.Canon fault)) before after writes same = same
no_more_reads_of_one IsOutput old new (Err (faults.Map fault)) before after writes same = λ other. same
no_more_reads_of_one IsOutput old new (Err faults.Read) before after writes same = absurd writes
no_more_reads_of_one IsOutput old new (Err (faults.Script fault)) before after writes same = absurd writes
no_more_reads_of_one IsOutput old new (Err (faults.Tape fault)) before after writes same = absurd writes
no_more_reads_of_one IsOutput old new (Err faults.Serve) before after writes same = absurd writes
no_more_reads_of_one IsOutput old new (Err faults.Wire) before after writes same = absurd writes

-- before the input was read no write fails
pub no_writes_yet : (input : Option (List ℕ)) (fault : RunFault) (count : ℕ) → IsReadingFault input fault
    → CountsWrites {T = Unit {0}} (Err fault) count count
no_writes_yet input (faults.Map fault) count why = refl
no_writes_yet input (faults.Canon fault) count why = refl
no_writes_yet input (faults.Script fault) count why = refl
no_writes_yet input (faults.Tape fault) count why = refl
no_writes_yet input faults.Read count why = refl
no_writes_yet input faults.Write count why = absurd why
no_writes_yet input faults.Serve count why = absurd why
no_writes_yet input faults.Wire count why = absurd why
