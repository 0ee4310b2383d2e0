-- A replica's tape: the records of its published maps.
use Rattle.std.specs.Prelude.{◌≡◌, ⊤, ℕ, Bool, true, false, List, [], ◌∷◌, ◌++◌, Option, Some, None, IsSome}
use Rattle.wf_def.specs.Definition.{Definition}
use Rattle.wf_journal.specs.Records.{AreRecords, IsTapeOf}
use Rattle.wf_learner.specs.History.{next_of}
use Rattle.wf_model.specs.DurableState.{Record, Published}
use Rattle.wf_safety.specs.Replacement.{published_from}
use Rattle.wf_tape.specs.declared.tape.Tape.{Ghosts as Tape}
use Rattle.wf_replica.specs.declared.start.FoundTape.{FoundTape}
use Rattle.wf_replica.specs.declared.start.FoundTape.TheVariants as found

-- The tape, if there is one, has the records of these maps, sequence 1 first, and nothing else.
abbrev pub HasRecorded : {T : Type 0} → Tape T → Option T → List Definition → Type 0
HasRecorded tapes None list = ⊤
HasRecorded tapes (Some tape) list = AreRecords (tapes.content tape) (published_from 1 list)

-- if it is durable
abbrev pub IsRecorded : {T : Type 0} → Tape T → Option T → List Definition → Type 0
IsRecorded tapes tape list = ∥ (tapes.durable → HasRecorded tapes tape list) ∥₁

-- the tape has these bytes more, or it is gone
abbrev pub HasAppended : {T : Type 0} → Tape T → List ℕ → Option T → Option T → Type 0
HasAppended tapes bytes old None = ⊤
HasAppended tapes bytes None (Some new) = ⊥
HasAppended tapes bytes (Some old) (Some new) = tapes.content new ≡ tapes.content old ++ bytes

-- the tape has what it had, or it is gone
abbrev pub HasStayedOrGone : {T : Type 0} → Tape T → Option T → Option T → Type 0
HasStayedOrGone tapes old None = ⊤
HasStayedOrGone tapes None (Some new) = ⊥
HasStayedOrGone tapes (Some old) (Some new) = tapes.content new ≡ tapes.content old

-- ---- how a replica begins

-- whether a record is that of the next map; if so, the map is learned
abbrev pub IsNextLearned : Bool → Record Definition → List Definition → List Definition → Type 0
IsNextLearned true r old new = (d : Definition) × (r ≡ Published (next_of old) d) × (new ≡ old ++ d ∷ [])
IsNextLearned false r old new = (d : Definition) → r ≡ Published (next_of old) d → ⊥

-- whether records are those of maps, one after the other; if so, these are learned
abbrev pub AreLearned : Bool → List (Record Definition) → List Definition → Type 0
AreLearned true records list = records ≡ published_from 1 list
AreLearned false records list = (other : List Definition) → records ≡ published_from 1 other → ⊥

-- What came of a tape with these records: their maps were learned; or they are none of maps, one
-- after the other, and the tape began anew, or failed.
abbrev pub IsRecordedStart : FoundTape → List (Record Definition) → List Definition → Type 0
IsRecordedStart found.Published records list = AreLearned true records list
IsRecordedStart found.Damaged records list = AreLearned false records list × (list ≡ [])
IsRecordedStart found.Failed records list = list ≡ []

-- a replica has a tape, unless that failed
abbrev pub IsTapeHad : {T : Type 0} → FoundTape → Option T → Type 0
IsTapeHad found.Published tape = IsSome tape
IsTapeHad found.Damaged tape = IsSome tape
IsTapeHad found.Failed tape = tape ≡ None

-- nothing was learned of a tape
abbrev pub IsBegunAnew : FoundTape → List Definition → Type 0
IsBegunAnew found.Published list = ⊥
IsBegunAnew found.Damaged list = list ≡ []
IsBegunAnew found.Failed list = list ≡ []

-- These bytes of a tape aren't those of any maps, one after the other, with nothing or a torn
-- record behind them.
abbrev pub HasNoMaps : List ℕ → Type 0
HasNoMaps bytes = (list : List Definition) (rest : List ℕ) → IsTapeOf bytes (published_from 1 list) rest → ⊥

-- What a replica begins with, by the bytes of its tape: all maps that are there, in their order. It
-- begins the tape anew only where the tape has no maps, or something else.
abbrev pub IsFoundOn : List ℕ → FoundTape → List Definition → Type 0
IsFoundOn bytes found.Published list = (rest : List ℕ) × IsTapeOf bytes (published_from 1 list) rest
IsFoundOn bytes found.Damaged list = HasNoMaps bytes × (list ≡ [])
IsFoundOn bytes found.Failed list = list ≡ []
