-- Why a message doesn't cross.
use Rattle.std.specs.Prelude.{◌≡◌, ◌<◌, ◌⊎◌, ℕ, List, [], ◌∷◌, ◌++◌, Option, Result, MatchResult, length}
use Rattle.std.specs.Io.KnownBytes.{Consumes, IsAtEnd}
use Rattle.wf_def.specs.Definition.{Definition}
use Rattle.wf_farm.specs.declared.carrier.CarrierFault.{CarrierFault}
use Rattle.wf_farm.specs.declared.carrier.CarrierFault.TheVariants as faults
use Rattle.wf_model.specs.Message.{Message}
use Rattle.wf_stream.specs.Effects.{Rises}
use Rattle.wf_stream.specs.declared.stream.Sink.{Ghosts as Sink}
use Rattle.wf_stream.specs.declared.stream.Source.{Ghosts as Source}
use Rattle.wf_mail.specs.Stream.{Breaks, Reads}
use Rattle.wf_codec.specs.declared.fault.DecodeFault.{DecodeFault}
use Rattle.wf_link.specs.Arrival.{HasArrived}
use Rattle.wf_link.specs.declared.receiver.Arrival.{Arrival}

-- an allocation failure leaves the ends like that, and a loss has this cause
abbrev pub FailsFor : CarrierFault → Type 0 → Type 0 → Type 0
FailsFor faults.Memory calm cause = calm
FailsFor faults.Lost calm cause = cause

-- success leaves the ends like that, and a failure is for that cause
abbrev pub CrossesOrFails : {T : Type 0} → Result T CarrierFault → Type 0 → Type 0 → Type 0
CrossesOrFails result calm cause = MatchResult result (λ _. calm) (λ fault. FailsFor fault calm cause)

-- ---- what a reader may give in place of what was written

-- the encoding of one message
abbrev pub IsOneMessage : List ℕ → Type 0
IsOneMessage bytes = (message : Message Definition) × Reads bytes (message ∷ []) []

-- part of a message, or none
abbrev pub BeginsNoMessage : List ℕ → Type 0
BeginsNoMessage bytes = (rest : List ℕ) × Reads bytes [] rest

-- whole messages, followed by an error
abbrev pub GoesWrong : List ℕ → Type 0
GoesWrong bytes = (fault : DecodeFault) × Breaks bytes fault

-- the reader ended after fewer bytes
abbrev pub EndsEarly : ℕ → Option (List ℕ) → Option (List ℕ) → Type 0
EndsEarly size left left_after = (bytes : List ℕ) × (length bytes < size) × Consumes left left_after bytes × IsAtEnd left_after

-- the bytes that came have an error, or as many came and aren't like that
abbrev pub ComesOtherwise : ℕ → (List ℕ → Type 0) → Option (List ℕ) → Option (List ℕ) → Type 0
ComesOtherwise size is left left_after = (bytes : List ℕ) × Consumes left left_after bytes × (GoesWrong bytes ⊎ ((length bytes ≡ size) × (is bytes → ⊥)))

module _ {K S : Type 0} (sinks : Sink K) (sources : Source S) where
  -- no call of either end failed
  abbrev pub IsCalm : K → K → S → S → Type 0
  IsCalm sink sink_after source source_after = (sinks.failures sink_after ≡ sinks.failures sink) × (sources.failures source_after ≡ sources.failures source)

  -- A write failed, a read failed, the reader ended before as many bytes came, or what came isn't
  -- like that.
  abbrev pub IsLost : ℕ → (List ℕ → Type 0) → K → K → S → S → Type 0
  IsLost size is sink sink_after source source_after = Rises (sinks.failures sink) (sinks.failures sink_after)
      ⊎ (Rises (sources.failures source) (sources.failures source_after)
      ⊎ (EndsEarly size (sources.left source) (sources.left source_after) ⊎ ComesOtherwise size is (sources.left source) (sources.left source_after)))

-- ---- for the crate's own contracts

-- whatever had arrived, with these bytes after it it has an error
unfoldable pub BreaksArrival : List ℕ → Arrival → Type 0
BreaksArrival bytes before = (earlier : List ℕ) → HasArrived earlier before → GoesWrong (earlier ++ bytes)

-- such bytes were taken from the reader's
abbrev pub IsCutOff : Option (List ℕ) → Option (List ℕ) → Arrival → Type 0
IsCutOff left left_after before = (bytes : List ℕ) × Consumes left left_after bytes × BreaksArrival bytes before

-- a read failed, the reader ended after fewer bytes, or they have an error
abbrev pub IsUnread : ℕ → ℕ → ℕ → Option (List ℕ) → Option (List ℕ) → Arrival → Type 0
IsUnread size failures failures_after left left_after before = Rises failures failures_after ⊎ (EndsEarly size left left_after ⊎ IsCutOff left left_after before)

-- a write failed, or that
abbrev pub IsUnpassed : ℕ → ℕ → ℕ → ℕ → ℕ → Option (List ℕ) → Option (List ℕ) → Arrival → Type 0
IsUnpassed size writes writes_after failures failures_after left left_after before = Rises writes writes_after ⊎ IsUnread size failures failures_after left left_after before

-- whatever the bytes are
abbrev pub IsAny : List ℕ → Type 0
IsAny bytes = Unit {0}
