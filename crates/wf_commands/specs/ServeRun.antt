-- What a run of `serve` does, and its errors.
use Rattle.std.specs.Prelude.{ℕ, List, Option, Result, Ok, Err, OnOk}
use Rattle.wf_serve.specs.PortLine.{IsPrinted}
use Rattle.wf_serve.specs.Served.{HasServed}
use Rattle.wf_serve.specs.declared.fault.ServeFault.{ServeFault}
use Rattle.wf_serve.specs.declared.fault.ServeFault.TheVariants as serving
use Rattle.wf_service.specs.declared.service.Service.{Service}
use Rattle.wf_line.specs.declared.command_line.Line.{Line}
use Rattle.wf_line.specs.declared.command_line.Line.TheVariants as lines
use Rattle.wf_tape.specs.declared.tape.Tape.{Ghosts as Tape}
use Rattle.wf_commands.specs.declared.fault.RunFault.{RunFault}
use Rattle.wf_commands.specs.declared.fault.RunFault.TheVariants as faults

-- the result of a run, by the server's
abbrev pub run_outcome : Result (Unit {0}) ServeFault → Result (Unit {0}) RunFault
run_outcome (Ok done) = Ok done
run_outcome (Err serving.Start) = Err faults.Serve
run_outcome (Err serving.Write) = Err faults.Write

-- The nodes were served, by the program's result. `serves` is what that means for the bytes written
-- before and after, and the server's result.
abbrev pub IsServeRun : (Option (List ℕ) → Option (List ℕ) → Result (Unit {0}) ServeFault → Type 0) → Option (List ℕ) → Option (List ℕ)
    → Result (Unit {0}) RunFault → Type 0
IsServeRun serves old new (Ok done) = serves old new (Ok done)
IsServeRun serves old new (Err faults.Write) = serves old new (Err serving.Write)
IsServeRun serves old new (Err faults.Serve) = serves old new (Err serving.Start)
IsServeRun serves old new (Err (faults.Map fault)) = ⊥
IsServeRun serves old new (Err (faults.Canon fault)) = ⊥
IsServeRun serves old new (Err (faults.Script fault)) = ⊥
IsServeRun serves old new (Err (faults.Tape fault)) = ⊥
IsServeRun serves old new (Err faults.Read) = ⊥
IsServeRun serves old new (Err faults.Wire) = ⊥

-- the line is `serve`
abbrev pub IsOfService : Line → Type 0
IsOfService (lines.Serve service) = Unit {0}
IsOfService (lines.Caps seq query) = ⊥
IsOfService (lines.Draw query) = ⊥
IsOfService lines.Canon = ⊥
IsOfService (lines.Check format) = ⊥
IsOfService (lines.Tape file map) = ⊥
IsOfService lines.Run = ⊥
IsOfService lines.Wire = ⊥

-- The nodes of a `serve` line were served, by the program's result. `serves` is what that means of
-- a service.
abbrev pub IsLineServed : (Service → Option (List ℕ) → Option (List ℕ) → Result (Unit {0}) ServeFault → Type 0) → Line → Option (List ℕ) → Option (List ℕ)
    → Result (Unit {0}) RunFault → Type 0
IsLineServed serves (lines.Serve service) old new result = IsServeRun (serves service) old new result
IsLineServed serves (lines.Caps seq query) old new result = ⊥
IsLineServed serves (lines.Draw query) old new result = ⊥
IsLineServed serves lines.Canon old new result = ⊥
IsLineServed serves (lines.Check format) old new result = ⊥
IsLineServed serves (lines.Tape file map) old new result = ⊥
IsLineServed serves lines.Run old new result = ⊥
IsLineServed serves lines.Wire old new result = ⊥

-- What the machine's serving of a service is, on tapes in memory and in files: the line with the
-- port is written, or a prefix of it; and if the nodes were served, these are as many as the
-- service has, and they served its number of connections, as `HasServed` says.
pub record IsMachineServing {M F : Type 0} (inside : Tape M) (outside : Tape F) (service : Service) (old new : Option (List ℕ)) (result : Result (Unit {0}) ServeFault) : Type 0 where
  pub reported_as : IsPrinted service.port old new result
  pub served : OnOk result (HasServed inside outside service)
