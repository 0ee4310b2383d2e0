-- From the result of a command to the run of its line.
use Rattle.std.specs.Borrow.{Bor}
use Rattle.std.proofs.Common.{◌≡◌, ℕ, Bool, true, false, List, [], refl, subst, sym, inl, inr, arith}
use Rattle.std.specs.Prelude.{Option, Some, None, Result, Ok, Err, OnOk}
use Rattle.std.specs.declared.io.ErrorKind.{ErrorKind as IoErrorKind}
use Rattle.clap.specs.Walk.{Text}
use Rattle.clap.specs.declared.error.kind.ErrorKind.{ErrorKind}
use Rattle.wf_listing.specs.declared.fault.TapeReadFault.{TapeReadFault}
use Rattle.wf_serve.specs.StartFault as serving
use Rattle.wf_serve.specs.PortLine.{IsPrinted}
use Rattle.wf_serve.specs.Served.{HasServed}
use Rattle.wf_serve.specs.declared.fault.ServeFault.{ServeFault}
use Rattle.wf_serve.specs.declared.fault.ServeFault.TheVariants as serve
use Rattle.wf_service.specs.declared.service.Service.{Service}
use Rattle.wf_stream.specs.KnownTheorems.{consumes_none}
use Rattle.wf_stream.specs.Effects.{TakesUpTo}
use Rattle.wf_store.specs.Call.{Call}
use Rattle.wf_tape.specs.declared.tape.Tape.{Ghosts as Tape}
use Rattle.wf_commands.specs.FailureCount.{CountsReads, CountsWrites}
use Rattle.wf_commands.specs.ProgramEnd.{left_to_report, rejection_status, reported, run_status, unreadable_status}
use Rattle.wf_commands.specs.Contents.{Contents}
use Rattle.wf_commands.specs.Folder.{HasFolderListing, IsTapeDone}
use Rattle.wf_commands.specs.Program.{IsFarmProcess, IsProcess, IsLineDone, IsRunOfWords, IsRunOf, Serves}
use Rattle.wf_commands.specs.Run.{HasListing, HasMap, IsTapeWriting, IsWhyListless, IsWhyMapless, most_read}
use Rattle.wf_commands.specs.ServeRun.{IsLineServed, IsMachineServing, IsServeRun, run_outcome}
use Rattle.wf_commands.specs.declared.program.Ending.{Ending}
use Rattle.wf_commands.specs.declared.fault.RunFault.{RunFault}
use Rattle.wf_commands.specs.declared.fault.RunFault.TheVariants as faults
use Rattle.wf_line.specs.Program.{program}
use Rattle.wf_line.specs.Rejection.{IsLineRejection}
use Rattle.wf_line.specs.declared.command_line.Line.{Line}
use Rattle.wf_line.specs.declared.command_line.Line.TheVariants as lines
use Rattle.clap.specs.Simple.{subcommand_of}
use Rattle.wf_line.specs.ProcessCommandLine.{AsksProcess, names_process_command}
use Rattle.wf_line.specs.declared.node_line.NodeCommand.{NodeCommand}
use Rattle.wf_line.specs.declared.process_line.ProcessCommand.TheVariants as processes
use Rattle.wf_line.specs.declared.replica_line.ReplicaLine.{ReplicaLine}
use Rattle.wf_node_command.specs.Done as nodes
use Rattle.wf_node_command.specs.Done.{CommandFault}
use Rattle.wf_replica_command.specs.Done as replicas
use Rattle.wf_replica_command.specs.Start.{IsLineRun}
use Rattle.wf_replica_command.specs.declared.fault.ReplicaFault.{ReplicaFault}

-- a reader that isn't called has given nothing
pub nothing_read : (input : Option (List ℕ)) → TakesUpTo 0 input input
nothing_read input = ([], omega arith, consumes_none input [] refl)

-- writing about a tape, no read of standard input fails
writing_reads_nothing : (HasOutput : (List ℕ → Type 0) → Type 0) (why : TapeReadFault → Type 0) (old new : Option (List ℕ)) (result : Result (Unit {0}) RunFault) (count : ℕ) →
    IsTapeWriting HasOutput why old new result → CountsReads result count count
writing_reads_nothing HasOutput why old new (Ok done) count writes = refl
writing_reads_nothing HasOutput why old new (Err faults.Write) count writes = refl
writing_reads_nothing HasOutput why old new (Err (faults.Tape fault)) count writes = refl
writing_reads_nothing HasOutput why old new (Err (faults.Map fault)) count writes = absurd writes
writing_reads_nothing HasOutput why old new (Err (faults.Canon fault)) count writes = absurd writes
writing_reads_nothing HasOutput why old new (Err (faults.Script fault)) count writes = absurd writes
writing_reads_nothing HasOutput why old new (Err faults.Read) count writes = absurd writes
writing_reads_nothing HasOutput why old new (Err faults.Serve) count writes = absurd writes
writing_reads_nothing HasOutput why old new (Err faults.Wire) count writes = absurd writes

pub listing_reads_nothing : (contents : Contents) (path : List ℕ) (map : Option ℕ) (old new : Option (List ℕ)) (result : Result (Unit {0}) RunFault) (count : ℕ) →
    IsTapeDone contents path map old new result → CountsReads result count count
listing_reads_nothing contents path (Some sequence) old new result count done =
    writing_reads_nothing (HasMap (contents.file path) sequence) (IsWhyMapless (contents.file path) sequence) old new result count done
listing_reads_nothing contents path None old new result count done = elim done [
  | inl file ↦ writing_reads_nothing (HasListing (contents.file path)) (IsWhyListless (contents.file path)) old new result count file
  | inr folder ↦ writing_reads_nothing (HasFolderListing folder.survey folder.calls folder.later) (λ fault. Unit {0}) old new result count folder.listed
]

module _ (serves : Serves) (contents : Contents) (input left old new : Option (List ℕ)) (reads reads_after writes writes_after : ℕ) (ending : Ending) where
  pub run_ended : (line : Line) (result : Result (Unit {0}) RunFault) → IsLineDone serves contents line input old new result → TakesUpTo (most_read line) input left →
      CountsReads result reads reads_after → CountsWrites result writes writes_after → ending.reported ≡ left_to_report line (reported result) → ending.status ≡ run_status result →
      IsRunOf serves contents line input left old new reads reads_after writes writes_after ending
  run_ended line result done most read written reported_as status = record { result = result; done = done; most = most; read = read; written = written; reported_as = reported_as; status = status }

-- serving nodes, no read of standard input fails
serving_reads_nothing : (serves : Option (List ℕ) → Option (List ℕ) → Result (Unit {0}) ServeFault → Type 0) (old new : Option (List ℕ)) (result : Result (Unit {0}) RunFault) (count : ℕ) →
    IsServeRun serves old new result → CountsReads result count count
serving_reads_nothing serves old new (Ok done) count is = refl
serving_reads_nothing serves old new (Err faults.Write) count is = refl
serving_reads_nothing serves old new (Err faults.Serve) count is = refl
serving_reads_nothing serves old new (Err (faults.Map fault)) count is = absurd is
serving_reads_nothing serves old new (Err (faults.Canon fault)) count is = absurd is
serving_reads_nothing serves old new (Err (faults.Script fault)) count is = absurd is
serving_reads_nothing serves old new (Err (faults.Tape fault)) count is = absurd is
serving_reads_nothing serves old new (Err faults.Read) count is = absurd is
serving_reads_nothing serves old new (Err faults.Wire) count is = absurd is

-- what was served, by the server's result
outcome_served : (serves : Option (List ℕ) → Option (List ℕ) → Result (Unit {0}) ServeFault → Type 0) (old new : Option (List ℕ)) (outcome : Result (Unit {0}) ServeFault) →
    serves old new outcome → IsServeRun serves old new (run_outcome outcome)
outcome_served serves old new (Ok done) is = is
outcome_served serves old new (Err serve.Start) is = is
outcome_served serves old new (Err serve.Write) is = is

pub line_served : (serves : Serves) (line : Line) (service : Service) (old new : Option (List ℕ)) (outcome : Result (Unit {0}) ServeFault) (result : Result (Unit {0}) RunFault) →
    line ≡ lines.Serve service → result ≡ run_outcome outcome → serves service old new outcome → IsLineServed serves line old new result
line_served serves line service old new outcome result is same served =
    subst (λ (l : Line). IsLineServed serves l old new result) (sym is)
    (subst (λ (r : Result (Unit {0}) RunFault). IsServeRun (serves service) old new r) (sym same) (outcome_served (serves service) old new outcome served))

counts_outcome : (outcome : Result (Unit {0}) ServeFault) (writes writes_after : ℕ) → serving.CountsWrites outcome writes writes_after → CountsWrites (run_outcome outcome) writes writes_after
counts_outcome (Ok done) writes writes_after counts = counts
counts_outcome (Err serve.Start) writes writes_after counts = counts
counts_outcome (Err serve.Write) writes writes_after counts = counts

pub outcome_counts : (outcome : Result (Unit {0}) ServeFault) (result : Result (Unit {0}) RunFault) (writes writes_after : ℕ) → result ≡ run_outcome outcome →
    serving.CountsWrites outcome writes writes_after → CountsWrites result writes writes_after
outcome_counts outcome result writes writes_after same counts =
    subst (λ (r : Result (Unit {0}) RunFault). CountsWrites r writes writes_after) (sym same) (counts_outcome outcome writes writes_after counts)

module _ (serves : Serves) (contents : Contents) (input old new : Option (List ℕ)) (reads writes writes_after : ℕ) (ending : Ending) where
  -- of `serve`
  pub service_ended : (line : Line) (result : Result (Unit {0}) RunFault) → IsLineServed serves line old new result → CountsWrites result writes writes_after →
      ending.reported ≡ left_to_report line (reported result) → ending.status ≡ run_status result →
      IsRunOf serves contents line input input old new reads reads writes writes_after ending
  service_ended (lines.Serve service) result done counts reported_as status =
      run_ended serves contents input input old new reads reads writes writes_after ending (lines.Serve service) result done (nothing_read input)
      (serving_reads_nothing (serves service) old new result reads done) counts reported_as status
  service_ended (lines.Caps seq query) result done counts reported_as status = absurd done
  service_ended (lines.Draw query) result done counts reported_as status = absurd done
  service_ended lines.Canon result done counts reported_as status = absurd done
  service_ended (lines.Check format) result done counts reported_as status = absurd done
  service_ended (lines.Tape file map) result done counts reported_as status = absurd done
  service_ended lines.Run result done counts reported_as status = absurd done
  service_ended lines.Wire result done counts reported_as status = absurd done

  -- of `tape`
  pub listing_ended : (file : Bor (List ℕ)) (map : Option ℕ) (result : Result (Unit {0}) RunFault) → IsTapeDone contents file.now map old new result → CountsWrites result writes writes_after →
      ending.reported ≡ left_to_report (lines.Tape file map) (reported result) → ending.status ≡ run_status result →
      IsRunOf serves contents (lines.Tape file map) input input old new reads reads writes writes_after ending
  listing_ended file map result done counts reported_as status =
      run_ended serves contents input input old new reads reads writes writes_after ending (lines.Tape file map) result done (nothing_read input)
      (listing_reads_nothing contents file.now map old new result reads done) counts reported_as status

-- a run whose line is `tape`
module _ (serves : Serves) (contents : Contents) (input old new : Option (List ℕ)) (reads writes writes_after : ℕ) (ending : Ending) (line : Line) where
  pub listed_line : (file : Bor (List ℕ)) (map : Option ℕ) → line ≡ lines.Tape file map → (result : Result (Unit {0}) RunFault) → IsTapeDone contents file.now map old new result →
      CountsWrites result writes writes_after → ending.reported ≡ left_to_report (lines.Tape file map) (reported result) → ending.status ≡ run_status result →
      IsRunOf serves contents line input input old new reads reads writes writes_after ending
  listed_line file map is result done counts reported_as status =
      subst (λ (l : Line). IsRunOf serves contents l input input old new reads reads writes writes_after ending) (sym is)
      (listing_ended serves contents input old new reads writes writes_after ending file map result done counts
      reported_as status)

-- what the machine's serving of a service is, by its parts
pub machine_serves : {M F : Type 0} (inside : Tape M) (outside : Tape F) (service : Service) (old new : Option (List ℕ)) (result : Result (Unit {0}) ServeFault) →
    IsPrinted service.port old new result → OnOk result (HasServed inside outside service) → IsMachineServing inside outside service old new result
machine_serves inside outside service old new result reported_as served = record { reported_as = reported_as; served = served }

-- ---- the process

module _ {T : Type 0} (tapes : Tape T) (status : ℕ) where
  pub node_run : (words : List Text) → names_process_command words ≡ true → (command : NodeCommand) → AsksProcess (subcommand_of program words) (processes.Node command) →
      (result : Result (Unit {0}) CommandFault) (none calls : List Call) → none ≡ [] → nodes.IsCommandDone tapes command none calls result → status ≡ nodes.command_status result → IsFarmProcess tapes status
  node_run words own command asked result none calls empty done is =
      let begun : nodes.IsCommandDone tapes command [] calls result = subst (λ (old : List Call). nodes.IsCommandDone tapes command old calls result) empty done in
      inl (record { words = words; own = own; command = command; asked = asked; result = result; calls = calls; done = begun; is = is })

  pub replica_run : (words : List Text) → names_process_command words ≡ true → (line : ReplicaLine) → AsksProcess (subcommand_of program words) (processes.Replica line) →
      (result : Result (Unit {0}) ReplicaFault) → replicas.IsReplicaDone tapes line result → (none calls : List Call) → none ≡ [] → IsLineRun line none calls result →
      status ≡ replicas.replica_status result → IsFarmProcess tapes status
  replica_run words own line asked result done none calls empty folder is =
      let begun : IsLineRun line [] calls result = subst (λ (old : List Call). IsLineRun line old calls result) empty folder in
      inr (inl (record { words = words; own = own; line = line; asked = asked; result = result; done = done; calls = calls; folder = begun; is = is }))

  pub farm_rejected : (words : List Text) → names_process_command words ≡ true → (kind : ErrorKind) → IsLineRejection words kind → (printed : Bool) × (status ≡ rejection_status kind printed) →
      IsFarmProcess tapes status
  farm_rejected words own kind why is = inr (inr (record { words = words; own = own; kind = kind; why = why; printed = is.0; is = is.1 }))

module _ {T : Type 0} (serves : Serves) (contents : Contents) (tapes : Tape T) (status : ℕ) where
  pub process_run : (words : List Text) (input left old new : Option (List ℕ)) (reads reads_after writes writes_after : ℕ) (ending : Ending) →
      IsRunOfWords serves contents words input left old new reads reads_after writes writes_after ending → names_process_command words ≡ false → status ≡ ending.status →
      IsProcess serves contents tapes status
  process_run words input left old new reads reads_after writes writes_after ending run other is = inl (record {
    words = words;
    other = other;
    input = input;
    left = left;
    old = old;
    new = new;
    reads = reads;
    reads_after = reads_after;
    writes = writes;
    writes_after = writes_after;
    ending = ending;
    run = run;
    is = is;
  })

  pub process_rejected : (words : List Text) (kind : ErrorKind) → IsLineRejection words kind → (printed : Bool) × (status ≡ rejection_status kind printed) → IsProcess serves contents tapes status
  process_rejected words kind why is = inr (inl (record { words = words; kind = kind; why = why; printed = is.0; is = is.1 }))

  pub process_unreadable : (kind : IoErrorKind) → status ≡ unreadable_status kind → IsProcess serves contents tapes status
  process_unreadable kind is = inr (inr (inl (record { kind = kind; is = is })))

  pub process_of_farm : IsFarmProcess tapes status → IsProcess serves contents tapes status
  process_of_farm is = inr (inr (inr is))
