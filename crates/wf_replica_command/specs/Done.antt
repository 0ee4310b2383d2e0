-- What a replica did.
use Rattle.std.specs.Prelude.{ℕ, Result, Ok, Err}
use Rattle.wf_line.specs.declared.replica_line.ReplicaLine.{ReplicaLine}
use Rattle.wf_replica_command.specs.Fault.{IsReplicaSystemFault, IsReplicaFault, fault_status}
use Rattle.wf_replica_command.specs.ReplicaLoop.{HasAnsweredByList, HasBeenTold, HasHeard, HasHeardNothing, HasLearned, HasOnlyGrown, HasRepliedByList, IsOfFarm, IsListOnTape, IsRefused, ReplicaState}
use Rattle.wf_replica_command.specs.declared.fault.ReplicaFault.{ReplicaFault}
use Rattle.wf_replica_command.specs.declared.fault.ReplicaFault.TheVariants as faults
use Rattle.wf_replica_command.specs.declared.event_loop.Turn.{Turn}
use Rattle.wf_replica_command.specs.declared.event_loop.Turn.TheVariants as turns
use Rattle.wf_replica_command.specs.declared.plan.ReplicaPlan.{ReplicaPlan}
use Rattle.wf_tape.specs.declared.tape.Tape.{Ghosts as Tape}

module _ {T : Type 0} (tapes : Tape T) where
  -- It has served. From the list with which it began it went on by what it heard of its sources,
  -- and by nothing else: that came on its connections to them. Its list is what it heard, which is
  -- the farm's if all that it heard was, and what its tape has; each client was answered, and each
  -- question of a reader replied, from the list as it then was; and the list never went back.
  pub record HasServed : Type 0 where
    pub begun : ReplicaState tapes
    pub unheard : HasHeardNothing tapes begun
    pub event_loop : ReplicaState tapes
    pub heard : HasHeard tapes begun event_loop
    pub told : HasBeenTold tapes event_loop
    pub lived : HasLearned tapes event_loop
    pub recorded : IsListOnTape tapes event_loop
    pub of_farm : IsOfFarm tapes event_loop
    pub answered : HasAnsweredByList tapes event_loop
    pub stayed : HasOnlyGrown tapes event_loop
    pub replied : HasRepliedByList tapes event_loop

  -- It has served until each of its sources refused it.
  pub record IsEndedBySources : Type 0 where
    pub served : HasServed
    pub refused : IsRefused tapes served.event_loop

  -- how the turns of a replica ended
  abbrev pub IsServedUntil : Turn → Type 0
  IsServedUntil turns.On = HasServed
  IsServedUntil (turns.Ended why) = IsEndedBySources

  -- how a replica ended that could begin
  abbrev pub IsReplicaEnd : ReplicaPlan → Result (Unit {0}) ReplicaFault → Type 0
  IsReplicaEnd plan (Ok done) = HasServed
  IsReplicaEnd plan (Err (faults.Ended why)) = IsEndedBySources
  IsReplicaEnd plan (Err fault) = IsReplicaSystemFault plan fault

  -- what came of a command line
  abbrev pub IsReplicaDone : ReplicaLine → Result (Unit {0}) ReplicaFault → Type 0
  IsReplicaDone line (Ok done) = HasServed
  IsReplicaDone line (Err (faults.Ended why)) = IsEndedBySources
  IsReplicaDone line (Err fault) = IsReplicaFault line fault

-- the exit status
abbrev pub replica_status : Result (Unit {0}) ReplicaFault → ℕ
replica_status (Ok done) = 0
replica_status (Err fault) = fault_status fault
