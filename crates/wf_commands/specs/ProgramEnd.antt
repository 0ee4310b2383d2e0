-- The program's exit status, and its line on standard error.
use Rattle.std.specs.Prelude.{ℕ, Bool, true, false, not, if◌then◌else◌, Option, Some, None, Result, Ok, Err}
use Rattle.std.specs.declared.io.ErrorKind.{ErrorKind as IoErrorKind}
use Rattle.std.specs.declared.io.ErrorKind.TheVariants as io
use Rattle.clap.specs.declared.error.kind.ErrorKind.{ErrorKind}
use Rattle.clap.specs.declared.error.kind.ErrorKind.TheVariants.{DisplayHelp, DisplayVersion, OutOfMemory}
use Rattle.wf_block.specs.ReadContract.{is_memory}
use Rattle.wf_line.specs.declared.command_line.Line.{Line}
use Rattle.wf_line.specs.declared.command_line.Line.TheVariants as lines
use Rattle.wf_commands.specs.declared.fault.RunFault.{RunFault}
use Rattle.wf_commands.specs.declared.fault.RunFault.TheVariants as faults

-- the exit status of a run
abbrev pub run_status : {T : Type 0} → Result T RunFault → ℕ
run_status (Ok done) = 0
run_status (Err fault) = 1

-- the error that is printed: a failed write isn't
abbrev pub reported : {T : Type 0} → Result T RunFault → Option RunFault
reported (Ok done) = None
reported (Err faults.Write) = None
reported (Err fault) = Some fault

-- `check` ends with this error after a report of it: the input isn't a map to publish
abbrev pub is_found : RunFault → Bool
is_found (faults.Map fault) = not (is_memory fault)
is_found (faults.Canon fault) = true
is_found _ = false

-- the command has written a report of the error
abbrev pub is_written : Line → RunFault → Bool
is_written (lines.Check format) fault = is_found fault
is_written _ fault = false

-- the error that is printed after the command: one that it has written a report of isn't
abbrev pub left_to_report : Line → Option RunFault → Option RunFault
left_to_report line None = None
left_to_report line (Some fault) = if is_written line fault then None else Some fault

-- The exit status if no command was run, by whether the text was printed: help and the version
-- aren't errors.
abbrev pub rejection_status : ErrorKind → Bool → ℕ
rejection_status OutOfMemory printed = 1
rejection_status DisplayHelp true = 0
rejection_status DisplayHelp false = 1
rejection_status DisplayVersion true = 0
rejection_status DisplayVersion false = 1
rejection_status _ printed = 2

-- the exit status if the command line can't be read: arguments that aren't UTF-8 are a bad command
-- line
abbrev pub unreadable_status : IoErrorKind → ℕ
unreadable_status io.InvalidData = 2
unreadable_status _ = 1
