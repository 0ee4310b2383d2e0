-- Why a call of a node's folder fails, where other calls came before.
use Rattle.std.proofs.Common.{inl, inr, ℕ, List, Option}
use Rattle.wf_folder.specs.declared.node_file.NodeFile.{NodeFile}
use Rattle.wf_membership.specs.declared.folder_error.FolderError.{FolderError}
use Rattle.wf_membership.specs.declared.folder_error.FolderError.TheVariants as errors
use Rattle.wf_store.specs.Call.{Call, IsAfter}
use Rattle.wf_store.specs.CallTheorems.{after_both}
use Rattle.wf_store.specs.declared.fault.FolderFault.TheVariants as faults
use Rattle.wf_voter.specs.Cause.{EndsWith, IsCausedBy, IsWhyHalted, IsWhyNoNextRun}
use Rattle.wf_voter.specs.declared.reopening.NotReopened.{NotReopened}
use Rattle.wf_voter.specs.declared.reopening.NotReopened.TheVariants as whys

module _ (old mid new : List Call) (after : IsAfter old mid) where
  pub ends_later : {Is : Call → Type 0} → EndsWith Is mid new → EndsWith Is old new
  ends_later ends = record { last = ends.last; earlier = ends.earlier; after = after_both old mid ends.earlier after ends.after; calls = ends.calls; is = ends.is }

  pub caused_later : (error : FolderError) → IsCausedBy error mid new → IsCausedBy error old new
  caused_later errors.Other is = ends_later is
  caused_later (errors.Store faults.Memory) is = tt
  caused_later (errors.Store fault) is = ends_later is

  module _ (file : NodeFile) (attempted : Option NodeFile) where
    pub halted_later : (why : NotReopened) (starts : ℕ) → IsWhyHalted why starts file attempted mid new → IsWhyNoNextRun why starts file attempted old new
    halted_later (whys.Folder error) starts is = caused_later error is
    halted_later whys.OtherFarm starts is = ends_later is
    halted_later whys.NoTape starts is = ends_later is
    halted_later (whys.Uncounted kind) starts (inl is) = inl (ends_later is)
    halted_later (whys.Uncounted kind) starts (inr is) = inr (is.0, ends_later is.1)
    halted_later whys.NoFurtherStart starts is = is
    halted_later whys.Memory starts is = tt
    halted_later (whys.Tape fault) starts is = tt
    halted_later whys.Runs starts is = absurd is

pub no_next_run : (why : NotReopened) (starts : ℕ) (file : NodeFile) (attempted : Option NodeFile) (old new : List Call) → IsWhyHalted why starts file attempted old new
    → IsWhyNoNextRun why starts file attempted old new
no_next_run (whys.Tape fault) starts file attempted old new is = tt
no_next_run why starts file attempted old new is = is
