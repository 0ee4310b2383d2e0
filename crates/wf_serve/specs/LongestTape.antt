-- For the crate's own contracts: while the tapes are read, the node that has published most is
-- kept.
use Rattle.std.specs.Prelude.{◌≡◌, ◌≢◌, ◌≤◌, ◌⊎◌, ℕ, List, [], Option, Some, None, IfSome, length, slice_get}
use Rattle.wf_def.specs.Definition.{Definition}
use Rattle.wf_folder.specs.declared.presence.Presence.{Presence}
use Rattle.wf_journal.specs.declared.open_error.OpenFault.{OpenFault}
use Rattle.wf_journal.specs.declared.open_error.OpenFault.TheVariants as open_faults
use Rattle.wf_model.specs.DurableState.{DurableState}
use Rattle.wf_node.specs.Node.{stored_of}
use Rattle.wf_node.specs.OpenedNode.{IsFoldOf, IsWhyBad}
use Rattle.wf_serve.specs.Difference.{Agree, DifferAt}
use Rattle.wf_serve.specs.TapeCheck.{IsTapeRead}
use Rattle.wf_serve.specs.TapesTaken.{AreFolds, HasTape, IsTapeCause, NumberedTape}
use Rattle.wf_serve.specs.declared.check.Longest.{Longest}
use Rattle.wf_serve.specs.declared.event.Cause.{Cause}
use Rattle.wf_serve.specs.declared.event.Cause.TheVariants as causes
use Rattle.wf_serve.specs.declared.tape_check.TapeCheck.{TapeCheck}
use Rattle.wf_store.specs.Call.{Call}

-- Two agree, and this is the one that has published more.
pub record IsLongerOf (first second longer : DurableState Definition) : Type 0 where
  pub agree : Agree first.history second.history
  pub is : ((longer ≡ first) × (length second.history ≤ length first.history)) ⊎ ((longer ≡ second) × (length first.history ≤ length second.history))

-- the same of one more, where there may be none yet
abbrev pub IsLonger : Option Longest → DurableState Definition → Longest → Type 0
IsLonger None state longer = stored_of longer.node ≡ state
IsLonger (Some longest) state longer = IsLongerOf (stored_of longest.node) state (stored_of longer.node)

-- One more is that of a tape with these bytes.
pub record IsNextLongest (bytes : List ℕ) (longest : Option Longest) (longer : Longest) : Type 0 where
  pub state : DurableState Definition
  pub folds : IsFoldOf state bytes
  pub is : IsLonger longest state longer

-- The bytes were read of the next tape.
pub record IsNextChecked (presence : Presence) (number : ℕ) (longest : Option Longest) (longer : Longest) (old new : List Call) : Type 0 where
  pub bytes : List ℕ
  pub read : IsTapeRead presence number bytes old new
  pub next : IsNextLongest bytes longest longer

-- Each of the states agrees with this one, which has published no less.
pub record AreBelow (states : List (DurableState Definition)) (longest : DurableState Definition) : Type 0 where
  pub each : (i : ℕ) (state : DurableState Definition) → slice_get states i ≡ Some state → (length state.history ≤ length longest.history) × Agree state.history longest.history

-- with the one that is kept, if there is one
abbrev pub HaveLongest : List (DurableState Definition) → Option Longest → Type 0
HaveLongest states None = states ≡ []
HaveLongest states (Some longest) = AreBelow states (stored_of longest.node)

-- ---- why there is no next one

-- the cause of a tape that opens no node
abbrev pub cause_of : ℕ → OpenFault → Cause
cause_of number (open_faults.BadRecord offset) = causes.TapeBad number offset
cause_of number open_faults.TapeFailed = causes.TapeFailed number
cause_of number open_faults.Memory = causes.Memory

-- the tape of a node is bad there, or an allocation failed
abbrev pub IsWhyNoNode : ℕ → List ℕ → Cause → Type 0
IsWhyNoNode number bytes (causes.TapeBad tape offset) = (tape ≡ number) × IsWhyBad (open_faults.BadRecord offset) bytes
IsWhyNoNode number bytes causes.Memory = Unit {0}
IsWhyNoNode number bytes _ = ⊥

-- the tapes of two nodes, which fold to these states, differ there
abbrev pub IsWhyDifferent : ℕ → ℕ → DurableState Definition → DurableState Definition → Cause → Type 0
IsWhyDifferent tape other first second (causes.TapesDiffer s one another) = (one ≡ tape) × (another ≡ other) × DifferAt first.history second.history s
IsWhyDifferent tape other first second _ = ⊥

-- a tape with these bytes differs from the one that is kept
abbrev pub IsWhyUnlike : ℕ → List ℕ → Option Longest → Cause → Type 0
IsWhyUnlike number bytes None cause = ⊥
IsWhyUnlike number bytes (Some longest) cause = (state : DurableState Definition) × IsFoldOf state bytes × IsWhyDifferent longest.number number (stored_of longest.node) state cause

-- either of both
abbrev pub IsWhyNotNext : ℕ → List ℕ → Option Longest → Cause → Type 0
IsWhyNotNext number bytes longest cause = IsWhyNoNode number bytes cause ⊎ IsWhyUnlike number bytes longest cause

-- a check has found this cause, which isn't that an allocation failed
abbrev pub HasFoundCause : Cause → TapeCheck → Type 0
HasFoundCause cause check = (check.cause ≡ Some cause) × (cause ≢ causes.Memory)

-- ---- whose tape the kept one's is

-- it is one of the two
abbrev pub IsOneOfTwo : Longest → Longest → Longest → Type 0
IsOneOfTwo first second longer = (longer ≡ first) ⊎ (longer ≡ second)

-- it is the one that was kept, or that of the tape of a node with these bytes
abbrev pub IsKeptOrNext : ℕ → List ℕ → Option Longest → Longest → Type 0
IsKeptOrNext number bytes longest longer = (longest ≡ Some longer) ⊎ ((longer.number ≡ number) × IsFoldOf (stored_of longer.node) bytes)

-- It is of one of the tapes.
pub record IsOfTape (tapes : List NumberedTape) (longest : Longest) : Type 0 where
  pub bytes : List ℕ
  pub has : HasTape tapes longest.number bytes
  pub folds : IsFoldOf (stored_of longest.node) bytes

-- The tapes were taken: each is sound, and agrees with the one that is kept.
pub record AreTaken (tapes : List NumberedTape) (longest : Option Longest) : Type 0 where
  pub states : List (DurableState Definition)
  pub folds : AreFolds states tapes
  pub have : HaveLongest states longest
  pub kept : IfSome longest (IsOfTape tapes)

-- that, or a cause why they aren't sound was found
abbrev pub AreTakenOr : List NumberedTape → Option Longest → Option Cause → Type 0
AreTakenOr tapes longest None = AreTaken tapes longest
AreTakenOr tapes longest (Some cause) = IsTapeCause tapes cause

-- The check has taken these tapes, the latest first.
abbrev pub HasTakenTapes : List NumberedTape → TapeCheck → Type 0
HasTakenTapes tapes check = AreTakenOr tapes check.longest check.cause
