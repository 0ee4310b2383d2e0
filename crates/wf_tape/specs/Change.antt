-- What a call changes on a tape, of the tape before it and the tape after it.
use Rattle.std.specs.Prelude.{ℕ, List}
use Rattle.wf_tape.specs.declared.tape.Tape.{Ghosts as Tape}
use Rattle.wf_tape.specs.Tape.{IsUnchanged, LeavesNoOther, Elapses, HasRisen}

-- the content and its images are unchanged
abbrev pub Stays : {T : Type 0} → Tape T → T → T → Type 0
Stays tapes old new = IsUnchanged (tapes.content old) (tapes.content new) (tapes.images old) (tapes.images new)

-- time goes on
abbrev pub GoesOn : {T : Type 0} → Tape T → T → T → Type 0
GoesOn tapes old new = Elapses (tapes.moment old) (tapes.moment new) (tapes.left_since old) (tapes.left_since new)

-- what a crash could have left since the call began
abbrev pub inside : {T : Type 0} → Tape T → T → T → List ℕ → Type 0
inside tapes old new = tapes.left_since new (tapes.moment old)

-- a crash inside the call leaves what one before it could
abbrev pub StaysInside : {T : Type 0} → Tape T → T → T → Type 0
StaysInside tapes old new = LeavesNoOther (tapes.images old) (inside tapes old new)

-- the device has failed in the call, and that is counted
abbrev pub HasFailed : {T : Type 0} → Tape T → T → T → Type 0
HasFailed tapes old new = HasRisen (tapes.failed old) (tapes.failed new)
