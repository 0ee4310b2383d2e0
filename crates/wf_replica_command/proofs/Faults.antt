-- From the error of a part to that of the command, and from an event loop to what it has served.
use Rattle.std.proofs.Common.{◌≡◌, ◌∙◌, ℕ, List, [], ap, refl, subst}
use Rattle.std.proofs.lemmas.Option.{none-some}
use Rattle.std.specs.Prelude.{Option, Some, Result, Ok, Err, length, option_map}
use Rattle.std.specs.declared.net.socket_addr.SocketAddr.{SocketAddr}
use Rattle.std.proofs.Math.Seq.{take-length}
use Rattle.wf_address.specs.Address.{IsNoAddress, IsSpelledBy, words_of, IsListFault}
use Rattle.wf_address.specs.declared.address_option.AddressOption.{AddressOption}
use Rattle.wf_address.specs.declared.address_option.AddressOption.TheVariants as options
use Rattle.wf_address.specs.declared.list.ListFault.{ListFault}
use Rattle.wf_address.specs.declared.list.ListFault.TheVariants as lists
use Rattle.wf_execution.specs.Execution.{Execution}
use Rattle.wf_execution.specs.Replica.{IsListOfFarm}
use Rattle.wf_def.specs.Definition.{Definition}
use Rattle.wf_line.specs.declared.replica_line.ReplicaLine.{ReplicaLine}
use Rattle.wf_model.specs.Message.{Message}
use Rattle.wf_reader.specs.declared.rejection.QuestionRejection.{QuestionRejection}
use Rattle.wf_ports.specs.Address.{address_of}
use Rattle.wf_replica.specs.Theorems.{AreReported, LearnedAreServed}
use Rattle.wf_replica.specs.LearnedList.{learned}
use Rattle.wf_replica_command.specs.Done.{HasServed, IsReplicaDone, IsReplicaEnd, IsServedUntil}
use Rattle.wf_replica_command.specs.Fault.{IsReplicaSystemFault, IsReplicaPlanOf, IsReplicaFault, IsReplicaWordsFault, fault_of, value_of}
use Rattle.wf_replica_command.specs.Heard.{Hears}
use Rattle.wf_replica_command.specs.Start.{IsReplicaFolderCause}
use Rattle.wf_replica_command.specs.ReplicaLoop.{HasAnsweredByList, HasBeenTold, HasHeardNothing, HasLearned, HasOnlyGrown, HasRepliedByList, IsOfFarm, IsListOnTape, IsRefused, state_of}
use Rattle.wf_replica_command.specs.declared.fault.ReplicaFault.{ReplicaFault}
use Rattle.wf_replica_command.specs.declared.fault.ReplicaFault.TheVariants as faults
use Rattle.wf_replica_command.specs.declared.replica_loop.ReplicaLoop.{ReplicaLoop}
use Rattle.wf_replica_command.specs.declared.event_loop.Turn.TheVariants as turns
use Rattle.wf_replica_command.specs.declared.plan.ReplicaPlan.{ReplicaPlan}
use Rattle.wf_sockets.specs.declared.connection.Connection.{Ghosts as Connection}
use Rattle.wf_store.specs.Call.{Call}
use Rattle.wf_tape.specs.declared.tape.Tape.{Ghosts as Tape}

-- ---- the command line

pub list_fault : (line : ReplicaLine) (why : ListFault) → IsListFault (words_of line.peers.now) why → IsReplicaWordsFault line (fault_of why)
list_fault line (lists.Bad index) is = is
list_fault line (lists.Count count) is = is
list_fault line lists.Memory is = tt

pub bad_http : (line : ReplicaLine) → IsNoAddress line.http.now → IsReplicaWordsFault line (faults.BadAddress options.Http)
bad_http line bad = record { word = line.http.now; is = refl; bad = bad }

pub bad_admin : (line : ReplicaLine) → (text : List ℕ) × (option_map (λ w. w.now) line.admin ≡ Some text) × IsNoAddress text → IsReplicaWordsFault line (faults.BadAddress options.Admin)
bad_admin line bad = record { word = bad.0; is = bad.1; bad = bad.2 }

pub bad_readers : (line : ReplicaLine) → (text : List ℕ) × (option_map (λ w. w.now) line.readers ≡ Some text) × IsNoAddress text → IsReplicaWordsFault line (faults.BadAddress options.Readers)
bad_readers line bad = record { word = bad.0; is = bad.1; bad = bad.2 }

-- the address that an option of a plan has is the one that the line's word spells
spelled : (line : ReplicaLine) (plan : ReplicaPlan) (option : AddressOption) (address : SocketAddr) → IsReplicaPlanOf line plan → address_of plan.ports option ≡ Some address →
    IsSpelledBy (value_of line option) (Some address)
spelled line plan options.Http address planned has = subst (λ (a : Option SocketAddr). IsSpelledBy (value_of line options.Http) a) has planned.http
spelled line plan options.Readers address planned has = subst (λ (a : Option SocketAddr). IsSpelledBy (value_of line options.Readers) a) has planned.readers
spelled line plan options.Admin address planned has = subst (λ (a : Option SocketAddr). IsSpelledBy (value_of line options.Admin) a) has planned.admin
spelled line plan options.Listen address planned has = absurd (none-some address has)

-- ---- what the system causes

pub planned_fault : (line : ReplicaLine) (plan : ReplicaPlan) (fault : ReplicaFault) → IsReplicaPlanOf line plan → IsReplicaSystemFault plan fault → IsReplicaFault line fault
planned_fault line plan (faults.BadPeer index) planned is = absurd is
planned_fault line plan (faults.PeerCount count) planned is = absurd is
planned_fault line plan (faults.BadAddress option) planned is = absurd is
planned_fault line plan faults.Name planned is = absurd is
planned_fault line plan (faults.Folder why) planned is = absurd is
planned_fault line plan faults.NotEmpty planned is = absurd is
planned_fault line plan faults.Version planned is = absurd is
planned_fault line plan faults.Kind planned is = absurd is
planned_fault line plan faults.OtherFarm planned is = absurd is
planned_fault line plan faults.Poll planned is = tt
planned_fault line plan (faults.Taken option address) planned is = spelled line plan option address planned is
planned_fault line plan faults.Memory planned is = tt
planned_fault line plan (faults.Ended why) planned is = absurd is

pub folder_fault : (line : ReplicaLine) (text : List ℕ) (old new : List Call) (fault : ReplicaFault) → IsReplicaFolderCause text old new fault → IsReplicaFault line fault
folder_fault line text old new (faults.BadPeer index) is = absurd is.2
folder_fault line text old new (faults.PeerCount count) is = absurd is.2
folder_fault line text old new (faults.BadAddress option) is = absurd is.2
folder_fault line text old new faults.Name is = absurd is.2
folder_fault line text old new (faults.Folder why) is = tt
folder_fault line text old new faults.NotEmpty is = tt
folder_fault line text old new faults.Version is = tt
folder_fault line text old new faults.Kind is = tt
folder_fault line text old new faults.OtherFarm is = tt
folder_fault line text old new faults.Poll is = absurd is.2
folder_fault line text old new (faults.Taken option address) is = absurd is.2
folder_fault line text old new faults.Memory is = tt
folder_fault line text old new (faults.Ended why) is = absurd is.2

pub words_fault : (line : ReplicaLine) (fault : ReplicaFault) → IsReplicaWordsFault line fault → IsReplicaFault line fault
words_fault line (faults.BadPeer index) is = is
words_fault line (faults.PeerCount count) is = is
words_fault line (faults.BadAddress option) is = is
words_fault line faults.Name is = is
words_fault line faults.Memory is = tt
words_fault line fault is = absurd is

module _ {T : Type 0} (tapes : Tape T) where
  -- a word of the command line is bad, or the system failed
  pub not_begun : (line : ReplicaLine) (fault : ReplicaFault) → IsReplicaFault line fault → IsReplicaDone tapes line (Err fault)
  not_begun line (faults.BadPeer index) is = is
  not_begun line (faults.PeerCount count) is = is
  not_begun line (faults.BadAddress option) is = is
  not_begun line faults.Name is = is
  not_begun line (faults.Folder why) is = is
  not_begun line faults.NotEmpty is = is
  not_begun line faults.Version is = is
  not_begun line faults.Kind is = is
  not_begun line faults.OtherFarm is = is
  not_begun line faults.Poll is = is
  not_begun line (faults.Taken option address) is = is
  not_begun line faults.Memory is = is
  not_begun line (faults.Ended why) is = absurd is

  pub ended_so : (line : ReplicaLine) (plan : ReplicaPlan) (result : Result (Unit {0}) ReplicaFault) → IsReplicaPlanOf line plan → IsReplicaEnd tapes plan result → IsReplicaDone tapes line result
  ended_so line plan (Ok done) planned is = is
  ended_so line plan (Err (faults.Ended why)) planned is = is
  ended_so line plan (Err (faults.BadPeer index)) planned is = not_begun line (faults.BadPeer index) (planned_fault line plan (faults.BadPeer index) planned is)
  ended_so line plan (Err (faults.PeerCount count)) planned is = not_begun line (faults.PeerCount count) (planned_fault line plan (faults.PeerCount count) planned is)
  ended_so line plan (Err (faults.BadAddress option)) planned is = not_begun line (faults.BadAddress option) (planned_fault line plan (faults.BadAddress option) planned is)
  ended_so line plan (Err faults.Name) planned is = not_begun line faults.Name (planned_fault line plan faults.Name planned is)
  ended_so line plan (Err (faults.Folder why)) planned is = not_begun line (faults.Folder why) (planned_fault line plan (faults.Folder why) planned is)
  ended_so line plan (Err faults.NotEmpty) planned is = not_begun line faults.NotEmpty (planned_fault line plan faults.NotEmpty planned is)
  ended_so line plan (Err faults.Version) planned is = not_begun line faults.Version (planned_fault line plan faults.Version planned is)
  ended_so line plan (Err faults.Kind) planned is = not_begun line faults.Kind (planned_fault line plan faults.Kind planned is)
  ended_so line plan (Err faults.OtherFarm) planned is = not_begun line faults.OtherFarm (planned_fault line plan faults.OtherFarm planned is)
  ended_so line plan (Err faults.Poll) planned is = not_begun line faults.Poll (planned_fault line plan faults.Poll planned is)
  ended_so line plan (Err (faults.Taken option address)) planned is = not_begun line (faults.Taken option address) (planned_fault line plan (faults.Taken option address) planned is)
  ended_so line plan (Err faults.Memory) planned is = not_begun line faults.Memory (planned_fault line plan faults.Memory planned is)

  pub never_begun : (plan : ReplicaPlan) (fault : ReplicaFault) → IsReplicaSystemFault plan fault → IsReplicaEnd tapes plan (Err fault)
  never_begun plan (faults.BadPeer index) is = is
  never_begun plan (faults.PeerCount count) is = is
  never_begun plan (faults.BadAddress option) is = is
  never_begun plan faults.Name is = is
  never_begun plan (faults.Folder why) is = is
  never_begun plan faults.NotEmpty is = is
  never_begun plan faults.Version is = is
  never_begun plan faults.Kind is = is
  never_begun plan faults.OtherFarm is = is
  never_begun plan faults.Poll is = is
  never_begun plan (faults.Taken option address) is = is
  never_begun plan faults.Memory is = is
  never_begun plan (faults.Ended why) is = absurd is

  -- ---- what was served

  has_served : {N C L : Type 0} {connections : Connection C} (begun event_loop : ReplicaLoop T N C L tapes connections) → HasHeardNothing tapes (state_of begun) → Hears begun.upstream begun.clients.renderer.follower event_loop.upstream event_loop.clients.renderer.follower → HasLearned tapes (state_of event_loop) → HasBeenTold tapes (state_of event_loop) → IsListOnTape tapes (state_of event_loop) → IsOfFarm tapes (state_of event_loop) →
      HasAnsweredByList tapes (state_of event_loop) → HasOnlyGrown tapes (state_of event_loop) → HasRepliedByList tapes (state_of event_loop) → HasServed tapes
  has_served begun event_loop unheard heard lived told recorded of_farm answered stayed replied =
      record { begun = state_of begun; unheard = unheard; event_loop = state_of event_loop; heard = record { goes_on = heard.goes_on; heard = heard.heard; logged = heard.logged; are = heard.are }; told = told; lived = lived; recorded = recorded; of_farm = of_farm; answered = answered; stayed = stayed; replied = replied }

  pub served_to_the_end : {N C L : Type 0} {connections : Connection C} (begun event_loop : ReplicaLoop T N C L tapes connections) → HasHeardNothing tapes (state_of begun) → Hears begun.upstream begun.clients.renderer.follower event_loop.upstream event_loop.clients.renderer.follower → HasLearned tapes (state_of event_loop) → HasBeenTold tapes (state_of event_loop) → IsListOnTape tapes (state_of event_loop) → IsOfFarm tapes (state_of event_loop) →
      HasAnsweredByList tapes (state_of event_loop) → HasOnlyGrown tapes (state_of event_loop) → HasRepliedByList tapes (state_of event_loop) → IsServedUntil tapes turns.On
  served_to_the_end begun event_loop unheard heard lived told recorded of_farm answered stayed replied = has_served begun event_loop unheard heard lived told recorded of_farm answered stayed replied

  pub served_until : (why : QuestionRejection) {N C L : Type 0} {connections : Connection C} (begun event_loop : ReplicaLoop T N C L tapes connections) → HasHeardNothing tapes (state_of begun) → Hears begun.upstream begun.clients.renderer.follower event_loop.upstream event_loop.clients.renderer.follower → HasLearned tapes (state_of event_loop) → HasBeenTold tapes (state_of event_loop) →
      IsListOnTape tapes (state_of event_loop) → IsOfFarm tapes (state_of event_loop) → HasAnsweredByList tapes (state_of event_loop) → HasOnlyGrown tapes (state_of event_loop) → HasRepliedByList tapes (state_of event_loop) → IsRefused tapes (state_of event_loop) → IsServedUntil tapes (turns.Ended why)
  unfolding has_served
  served_until why begun event_loop unheard heard lived told recorded of_farm answered stayed replied refused =
      record { served = has_served begun event_loop unheard heard lived told recorded of_farm answered stayed replied; refused = refused }

-- what was learned of answers of a farm is one of its lists
pub of_farm : {T : Type 0} (list : List Definition) (received : List (Message Definition)) → LearnedAreServed T → learned [] received ≡ list →
    (n : ℕ) (executions : ℕ → Execution T) → AreReported n executions received → IsListOfFarm n executions list
of_farm list received served lived n executions emitted =
    subst (λ (l : List Definition). IsListOfFarm n executions l) (ap (λ (h : List (Message Definition)). learned [] h) (take-length received) ∙ lived)
    (served n executions received emitted (length received))
