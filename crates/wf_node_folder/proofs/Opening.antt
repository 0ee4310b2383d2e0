-- The calls by which a node's tape is read, compared and opened.
use Rattle.std.proofs.Common.{◌≡◌, ℕ, List, ◌∷◌, ap, inl, inr, subst, sym}
use Rattle.std.specs.Prelude.{Option, Some, Result, Ok, Err, IfErr, IfOk, OnErr, OnOk}
use Rattle.wf_voter.specs.Process.{Process}
use Rattle.wf_def.specs.Definition.{Definition}
use Rattle.wf_folder.specs.declared.node_file.NodeFile.{NodeFile}
use Rattle.wf_folder.specs.declared.reach.Known.{Known}
use Rattle.wf_model.specs.DurableState.{DurableState}
use Rattle.wf_node.specs.Images.{StandsFor}
use Rattle.wf_node.specs.Node.{stored_of}
use Rattle.wf_node_folder.specs.Fault.{IsFromSystem}
use Rattle.wf_node_folder.specs.Folder.{StandsForRead, tape_in}
use Rattle.wf_node_folder.specs.Held.{HasHeld, IsWhyNotHeldBy}
use Rattle.wf_node_folder.specs.Start.{IsCompared, IsTapeOpened, IsUnopened, IsWhyNotCompared}
use Rattle.wf_node_folder.specs.declared.fault.CommandFault.{CommandFault}
use Rattle.wf_node_folder.specs.declared.fault.CommandFault.TheVariants as faults
use Rattle.wf_node_folder.specs.declared.read_node.ReadNode.{ReadNode}
use Rattle.wf_store.specs.Call.{Call, OnlyReads, failed_at, opened, read}
use Rattle.wf_store.specs.CallTheorems.{reads_none}
use Rattle.wf_store.specs.declared.file_name.FileName.TheVariants.{NodeTape}
use Rattle.wf_tape.specs.declared.tape.Tape.{Ghosts as Tape}

-- ---- comparing

module _ (file : NodeFile) (bytes : List ℕ) (old new : List Call) (result : Result ReadNode CommandFault) (is : new ≡ read (NodeTape file.node) (Some bytes) ∷ old) where
  pub compared_by : OnOk result (HasHeld file bytes) → OnOk result (IsCompared file old new)
  compared_by holds = by_result result holds
    where
      by_result : (r : Result ReadNode CommandFault) → OnOk r (HasHeld file bytes) → OnOk r (IsCompared file old new)
      by_result (Ok copy) held = record { content = bytes; holds = held; calls = is }
      by_result (Err fault) held = tt

  -- its node has stored what the bytes stand for that were read
  pub read_by : IfOk result (λ copy. StandsFor (stored_of copy.node) bytes) → IfOk result (λ copy. StandsForRead (stored_of copy.node) (tape_in new))
  read_by stands = by_result result stands
    where
      by_result : (r : Result ReadNode CommandFault) → IfOk r (λ copy. StandsFor (stored_of copy.node) bytes) → IfOk r (λ copy. StandsForRead (stored_of copy.node) (tape_in new))
      by_result (Ok copy) stands = subst (λ (had : Option (List ℕ)). StandsForRead (stored_of copy.node) had) (sym (ap tape_in is)) stands
      by_result (Err fault) stands = tt

  pub not_compared_by : IfErr result (IsWhyNotHeldBy file bytes) → IfErr result (IsWhyNotCompared file old new)
  not_compared_by why = by_result result why
    where
      by_result : (r : Result ReadNode CommandFault) → IfErr r (IsWhyNotHeldBy file bytes) → IfErr r (IsWhyNotCompared file old new)
      by_result (Ok copy) is_why = tt
      by_result (Err (faults.Rejected rejection)) back = record { content = bytes; back = back; calls = is }
      by_result (Err (faults.TapeBad offset)) damaged = record { content = bytes; damaged = damaged; calls = is }
      by_result (Err fault) is_why = is_why

pub uncompared_of_system : (file : NodeFile) (old new : List Call) (fault : CommandFault) → IsFromSystem fault → IsWhyNotCompared file old new fault
uncompared_of_system file old new (faults.Rejected why) is = absurd is
uncompared_of_system file old new (faults.TapeBad offset) is = absurd is
uncompared_of_system file old new fault is = is

-- ---- opening

-- nothing was called, or calls came that read
pub untouched : (file : NodeFile) (calls : List Call) → IsUnopened file calls calls
untouched file calls = inl (reads_none calls)

pub only_read : (file : NodeFile) (old new : List Call) → OnlyReads old new → IsUnopened file old new
only_read file old new reads = inl reads

-- it was compared, and couldn't be opened
pub not_opened : (file : NodeFile) (old compared new : List Call) → IsCompared file old compared → new ≡ failed_at (NodeTape file.node) ∷ compared → IsUnopened file old new
not_opened file old compared new is failed = inr (compared, is, inr failed)

-- it was opened, and then its node began, or not
module _ {T : Type 0} (tapes : Tape T) (file : NodeFile) (old compared new : List Call) (is : IsCompared file old compared) (calls : new ≡ opened (NodeTape file.node) ∷ compared)
    (result : Result (Process T tapes × Known) CommandFault) where
  is_opened : IsTapeOpened file old new
  is_opened = record { compared = compared; is_compared = is; calls = calls }

  pub opened_so : OnOk result (IsTapeOpened file old new)
  opened_so = by_result result
    where
      by_result : (r : Result (Process T tapes × Known) CommandFault) → OnOk r (IsTapeOpened file old new)
      by_result (Ok begun) = is_opened
      by_result (Err fault) = tt

  pub opened_alone : OnErr result (IsUnopened file old new)
  opened_alone = by_result result
    where
      by_result : (r : Result (Process T tapes × Known) CommandFault) → OnErr r (IsUnopened file old new)
      by_result (Ok begun) = tt
      by_result (Err fault) = inr (compared, is, inl calls)

  pub opened_of_system : IfErr result IsFromSystem → IfErr result (IsWhyNotCompared file old new)
  opened_of_system why = by_result result why
    where
      by_result : (r : Result (Process T tapes × Known) CommandFault) → IfErr r IsFromSystem → IfErr r (IsWhyNotCompared file old new)
      by_result (Ok begun) is_why = tt
      by_result (Err fault) is_why = uncompared_of_system file old new fault is_why

  -- its node has stored what was read
  pub opened_read : (stored : DurableState Definition) → StandsForRead stored (tape_in compared) → IfOk result (λ begun. stored_of begun.0.actor.node ≡ stored)
      → IfOk result (λ begun. StandsForRead (stored_of begun.0.actor.node) (tape_in new))
  opened_read stored stands same = by_result result same
    where
      by_result : (r : Result (Process T tapes × Known) CommandFault) → IfOk r (λ begun. stored_of begun.0.actor.node ≡ stored) → IfOk r (λ begun. StandsForRead (stored_of begun.0.actor.node) (tape_in new))
      by_result (Ok begun) same =
          subst (λ (had : Option (List ℕ)). StandsForRead (stored_of begun.0.actor.node) had) (sym (ap tape_in calls))
          (subst (λ (s : DurableState Definition). StandsForRead s (tape_in compared)) (sym same) stands)
      by_result (Err fault) same = tt
