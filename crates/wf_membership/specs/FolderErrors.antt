-- The file for which a folder isn't read or written.
use Rattle.std.specs.Prelude.{Option, Some, None}
use Rattle.wf_membership.specs.declared.folder_error.FolderError.{FolderError}
use Rattle.wf_membership.specs.declared.folder_error.FolderError.TheVariants as errors
use Rattle.wf_store.specs.declared.fault.FolderFault.{FolderFault}
use Rattle.wf_store.specs.declared.fault.FolderFault.TheVariants as faults
use Rattle.wf_store.specs.declared.file_name.FileName.{FileName}

abbrev pub file_at_fault : FolderFault → Option FileName
file_at_fault (faults.Unread file kind) = Some file
file_at_fault (faults.Unopened file) = Some file
file_at_fault (faults.Unwritten file kind) = Some file
file_at_fault fault = None

-- none: it is the folder itself, or no memory
abbrev pub file_of : FolderError → Option FileName
file_of errors.Other = None
file_of (errors.Store fault) = file_at_fault fault
