-- What a run of the program does: from the words of its command line and its standard input to what
-- it reads and writes, the error that it reports and its exit status.
use Rattle.std.specs.Prelude.{◌≡◌, ◌⊎◌, ℕ, Bool, true, false, List, [], Option, Result}
use Rattle.std.specs.declared.io.ErrorKind.{ErrorKind as IoErrorKind}
use Rattle.clap.specs.Simple.{subcommand_of}
use Rattle.clap.specs.Walk.{Text}
use Rattle.clap.specs.declared.error.kind.ErrorKind.{ErrorKind}
use Rattle.wf_serve.specs.declared.fault.ServeFault.{ServeFault}
use Rattle.wf_service.specs.declared.service.Service.{Service}
use Rattle.wf_stream.specs.Effects.{TakesUpTo}
use Rattle.wf_line.specs.CommandLine.{Asks}
use Rattle.wf_line.specs.Program.{program}
use Rattle.wf_line.specs.Rejection.{IsLineRejection}
use Rattle.wf_commands.specs.FailureCount.{CountsReads, CountsWrites}
use Rattle.wf_commands.specs.ProgramEnd.{left_to_report, rejection_status, reported, run_status, unreadable_status}
use Rattle.wf_commands.specs.Contents.{Contents}
use Rattle.wf_commands.specs.Folder.{IsTapeDone}
use Rattle.wf_commands.specs.Run.{IsOutcomeOf, most_read}
use Rattle.wf_commands.specs.ServeRun.{IsServeRun}
use Rattle.wf_commands.specs.declared.program.Ending.{Ending}
use Rattle.wf_commands.specs.declared.fault.RunFault.{RunFault}
use Rattle.wf_line.specs.declared.command_line.Line.{Line}
use Rattle.wf_line.specs.declared.command_line.Line.TheVariants as lines
use Rattle.wf_line.specs.ProcessCommandLine.{AsksProcess, names_process_command}
use Rattle.wf_line.specs.declared.node_line.NodeCommand.{NodeCommand}
use Rattle.wf_line.specs.declared.process_line.ProcessCommand.TheVariants as processes
use Rattle.wf_line.specs.declared.replica_line.ReplicaLine.{ReplicaLine}
use Rattle.wf_node_command.specs.Done as nodes
use Rattle.wf_node_command.specs.Done.{CommandFault}
use Rattle.wf_replica_command.specs.Done as replicas
use Rattle.wf_replica_command.specs.Start.{IsLineRun}
use Rattle.wf_replica_command.specs.declared.fault.ReplicaFault.{ReplicaFault}
use Rattle.wf_store.specs.Call.{Call}
use Rattle.wf_tape.specs.declared.tape.Tape.{Ghosts as Tape}

-- What serving means: of a service, the bytes written before and after, and the server's result.
abbrev pub Serves : Type 1
Serves = Service → Option (List ℕ) → Option (List ℕ) → Result (Unit {0}) ServeFault → Type 0

-- The command of the line was run, with this result: a command about standard input reads and
-- writes as such, `tape` writes about the tapes at the line's path, and `serve` serves the line's
-- service.
abbrev pub IsLineDone : Serves → Contents → Line → Option (List ℕ) → Option (List ℕ) → Option (List ℕ) → Result (Unit {0}) RunFault → Type 0
IsLineDone serves contents (lines.Caps seq query) input old new result = IsOutcomeOf (lines.Caps seq query) input old new result
IsLineDone serves contents (lines.Draw query) input old new result = IsOutcomeOf (lines.Draw query) input old new result
IsLineDone serves contents lines.Canon input old new result = IsOutcomeOf lines.Canon input old new result
IsLineDone serves contents (lines.Check format) input old new result = IsOutcomeOf (lines.Check format) input old new result
IsLineDone serves contents lines.Run input old new result = IsOutcomeOf lines.Run input old new result
IsLineDone serves contents lines.Wire input old new result = IsOutcomeOf lines.Wire input old new result
IsLineDone serves contents (lines.Tape file map) input old new result = IsTapeDone contents file.now map old new result
IsLineDone serves contents (lines.Serve service) input old new result = IsServeRun (serves service) old new result

-- The run of a line: by the input before and after, the output before and after, the counts of
-- failed reads before and after, and those of failed writes.
pub record IsRunOf (serves : Serves) (contents : Contents) (line : Line) (input left old new : Option (List ℕ)) (reads reads_after writes writes_after : ℕ) (ending : Ending) : Type 0 where
  -- the result of its command
  pub result : Result (Unit {0}) RunFault
  pub done : IsLineDone serves contents line input old new result
  pub most : TakesUpTo (most_read line) input left
  pub read : CountsReads result reads reads_after
  pub written : CountsWrites result writes writes_after
  -- the line on standard error, and the exit status
  pub reported_as : ending.reported ≡ left_to_report line (reported result)
  pub status : ending.status ≡ run_status result

-- The run of a command line's words: that of the line that they ask for.
abbrev pub IsRunOfWords : Serves → Contents → List Text → (input left old new : Option (List ℕ)) → (reads reads_after writes writes_after : ℕ) → Ending → Type 0
IsRunOfWords serves contents words input left old new reads reads_after writes writes_after ending =
    (line : Line) × Asks (subcommand_of program words) line × IsRunOf serves contents line input left old new reads reads_after writes writes_after ending

-- ---- the process

-- It ran the line that its words ask for, and ended with the run's status.
pub record HasRun (serves : Serves) (contents : Contents) (status : ℕ) : Type 0 where
  pub words : List Text
  pub other : names_process_command words ≡ false
  -- the input before and after, the output before and after, if known, and the counts of failed
  -- reads and writes
  pub input : Option (List ℕ)
  pub left : Option (List ℕ)
  pub old : Option (List ℕ)
  pub new : Option (List ℕ)
  pub reads : ℕ
  pub reads_after : ℕ
  pub writes : ℕ
  pub writes_after : ℕ
  pub ending : Ending
  pub run : IsRunOfWords serves contents words input left old new reads reads_after writes writes_after ending
  pub is : status ≡ ending.status

-- Its words ask for no line, and it ended with the status of their rejection, by whether its text
-- was printed.
pub record WasRejected (status : ℕ) : Type 0 where
  pub words : List Text
  pub kind : ErrorKind
  pub why : IsLineRejection words kind
  pub printed : Bool
  pub is : status ≡ rejection_status kind printed

-- Its words can't be read.
pub record WasUnreadable (status : ℕ) : Type 0 where
  pub kind : IoErrorKind
  pub is : status ≡ unreadable_status kind

-- ---- a process of a farm

-- It ran the command about a node that its words ask for, by these calls of its folder, and ended
-- with its status.
pub record HasRunNode {T : Type 0} (tapes : Tape T) (status : ℕ) : Type 0 where
  pub words : List Text
  pub own : names_process_command words ≡ true
  pub command : NodeCommand
  pub asked : AsksProcess (subcommand_of program words) (processes.Node command)
  pub result : Result (Unit {0}) CommandFault
  pub calls : List Call
  pub done : nodes.IsCommandDone tapes command [] calls result
  pub is : status ≡ nodes.command_status result

-- It served the replica that its words ask for, by these calls of its folder, and ended with its
-- status.
pub record HasRunReplica {T : Type 0} (tapes : Tape T) (status : ℕ) : Type 0 where
  pub words : List Text
  pub own : names_process_command words ≡ true
  pub line : ReplicaLine
  pub asked : AsksProcess (subcommand_of program words) (processes.Replica line)
  pub result : Result (Unit {0}) ReplicaFault
  pub done : replicas.IsReplicaDone tapes line result
  pub calls : List Call
  pub folder : IsLineRun line [] calls result
  pub is : status ≡ replicas.replica_status result

-- Its words are rejected, and it ended with the status of that, by whether their text was printed.
pub record WasFarmRejected (status : ℕ) : Type 0 where
  pub words : List Text
  pub own : names_process_command words ≡ true
  pub kind : ErrorKind
  pub why : IsLineRejection words kind
  pub printed : Bool
  pub is : status ≡ rejection_status kind printed

abbrev pub IsFarmProcess : {T : Type 0} → Tape T → ℕ → Type 0
IsFarmProcess tapes status = HasRunNode tapes status ⊎ (HasRunReplica tapes status ⊎ WasFarmRejected status)

-- what the process did, by its exit status
abbrev pub IsProcess : {T : Type 0} → Serves → Contents → Tape T → ℕ → Type 0
IsProcess serves contents tapes status = HasRun serves contents status ⊎ (WasRejected status ⊎ (WasUnreadable status ⊎ IsFarmProcess tapes status))
