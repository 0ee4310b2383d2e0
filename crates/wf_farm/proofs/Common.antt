-- The names that the proofs cite from elsewhere, passed on from one place. Declares nothing.
pub use Rattle.std.proofs.lemmas.Bool.{both_ways, cases_eq, false≢true, le-ltb, lt-ltb, ltb-false, ltb-true}
pub use Rattle.std.proofs.lemmas.Bool.Decides.{nat_tests}
pub use Rattle.std.proofs.lemmas.List.{append-nil, append_assoc, drop_all, get_or_default, length-map, map-append, nil_from_length, take-take, take_all}
pub use Rattle.std.proofs.lemmas.Option.{none-some, same_Some, slice_get-map, slice_get_cases, slice_get_past, slice_get_read, slice_get_within}
pub use Rattle.std.specs.List.{dedup}
pub use Rattle.std.specs.declared.alloc.Global.{Global}
pub use Rattle.wf_codec.specs.declared.message.Message.{Message}
pub use Rattle.wf_def.specs.Definition.{Definition, empty_map}
pub use Rattle.wf_def.specs.Equality.{definition_eq}
pub use Rattle.wf_journal.specs.Journal.{Follows, IsSettled, ReadsSame}
pub use Rattle.wf_journal.specs.Records.{AreRecords, BeginsWithNone, ReadsAs, Splits}
unfoldable pub use Rattle.wf_journal.specs.Records.{length_of}
unfoldable pub use Rattle.wf_safety.specs.Earlier.{raised, sent_before}
pub use Rattle.wf_safety.specs.Theorems.{IsBeginning}
pub use Rattle.wf_model.specs.Action.{numbered}
unfoldable pub use Rattle.wf_model.specs.Chosen.{definition, history, history_of}
pub use Rattle.wf_model.specs.World.{Event, Turn, World, deliver, propose}
pub use Rattle.wf_model.specs.StepsTheorems.{steps_in_turn}
pub use Rattle.wf_model.specs.DurableState.{Record, DurableState}
unfoldable pub use Rattle.wf_model.specs.DurableState.{definition_at, fold}
pub use Rattle.wf_model.specs.Table.{Action, Input, StepRejection}
unfoldable pub use Rattle.wf_model.specs.Table.{step_rejection}
unfoldable pub use Rattle.wf_model.specs.VolatileState.{at_start}
unfoldable pub use Rattle.wf_model.specs.World.{after, after_restart, after_stop, after_torn, after_turn, delivered, happens, input_of, kept_part, step_rejection_of, refused, rejected_at, start, steps, stored_after, turn, turn_of, with_node}
pub use Rattle.wf_model.specs.declared.action.Kept.{Kept}
pub use Rattle.wf_node.specs.Images.{AllStandFor, EachIsCut, ReadsOn, ReadsWith, StandsFor}
pub use Rattle.wf_node.specs.Node.{Node, stored_of, volatile_of}
pub use Rattle.wf_node.specs.OpenedNode.{IsFoldOf}
pub use Rattle.wf_node.specs.Step.{IsTransition, IsSameNode, entry_of, proposal_step_rejection, step_rejection_at, retry_step_rejection, transition_of, stored_next}
pub use Rattle.wf_node.specs.declared.fault.NodeFault.{NodeFault}
pub use Rattle.wf_tape.specs.MemoryTape.{IsImageNow, NeverFails, TapeValue, with_fuse}
pub use Rattle.wf_farm.specs.Agreement.{HasDurableState, IsOneWorld, Publishes}
unfoldable pub use Rattle.wf_farm.specs.Agreement.{HasNoTwoDefinitions, HistoriesGrow}
pub use Rattle.wf_farm.specs.Allocation.{IsStopped, MayAllocateIn, is_stopped}
unfoldable pub use Rattle.wf_farm.specs.Allocation.{MayAllocate, MayAllocateAt, TakesStep, may_allocate}
pub use Rattle.wf_farm.specs.Carriage.{IsMemory, IsUndelivered, fault_after}
unfoldable pub use Rattle.wf_farm.specs.Carriage.{ChangesByEvent, ChangesByStep}
pub use Rattle.wf_farm.specs.Cluster.{Between, Happens, KeepMembers, ReportsWhy}
unfoldable pub use Rattle.wf_farm.specs.Cluster.{AreSoundHosts, Moves, StayShown, last_rejected}
pub use Rattle.wf_delivery.specs.Delivery.{AnyPart, AreChanged, AreHandedOut, Changed, IsNodeBy, Refines, StandFor, StandInTurn, Unchanged}
unfoldable pub use Rattle.wf_delivery.specs.Delivery.{MayLeaveOfEach, NoneHalted, StandAmong}
pub use Rattle.wf_farm.specs.Event.{view}
pub use Rattle.wf_delivery.specs.NodeInput.{IsSturdy, MayBeLost, Takes}
pub use Rattle.wf_farm.specs.Exchange.{IsAskedByClient, IsExchange}
unfoldable pub use Rattle.wf_farm.specs.Exchange.{IsReadyFor, ReachabilityGoesOn}
pub use Rattle.wf_farm.specs.Farm.{IsAtOnce, IsSoundFarm, IsMemoryFarm, IsReachable, MemoryFarm, Runs, running_in, size}
pub use Rattle.wf_farm.specs.Fault.{reported}
pub use Rattle.wf_farm.specs.Fused.{FailsWithin, AddsEvent, HappensAs, HasFaredTo, HaveFared, HaveRun, IsArmed, IsHappened, IsStepOf, IsStepOfNode, IsStepOfWatched, IsWatchedStep, RunsOrTears, Stands, TearsAt, TearsOnly, ReportsLast, ReportsUnless, ReportsWhyUnlessTorn, crash_at, crash_within, torn_at, with_torn}
unfoldable pub use Rattle.wf_farm.specs.Fused.{FailsOnly, NoneFails, step_of}
pub use Rattle.wf_delivery.specs.Reachability.{AreReachable, AreReachableFrom, AreReachableSending, IsFresh, fresh_node}
unfoldable pub use Rattle.wf_delivery.specs.Reachability.{Reach}
pub use Rattle.wf_farm.specs.Nodes.{KeepEntries, KeepsEntry, KeepsHost, RunsAt, node_in, nodes_in, nodes_of}
unfoldable pub use Rattle.wf_farm.specs.Nodes.{AllRun, KeepHosts}
pub use Rattle.wf_farm.specs.NodesTheorems.{keep_set, keep_themselves, keep_twice, keeps_itself, length-nodes, nodes_back, nodes_get, nodes_set}
pub use Rattle.wf_farm.specs.NodeHost.{IsChanged, IsHostOf, HostsNode, KeepsSturdy, MemoryHost, Stops, rejection_in, tape_in, with_fuse_in}
unfoldable pub use Rattle.wf_farm.specs.NodeHost.{KeepsMember, Restarts, HostStays}
pub use Rattle.wf_delivery.specs.IndexTheorems.{get_set_other, get_set_same, set_same, set_there, set_twice}
pub use Rattle.wf_delivery.specs.Progress.{begun, most_deliveries, next}
pub use Rattle.wf_farm.specs.PumpProgress.{IsProgressEnd, IsForMemory, IsMade, MayEnd, outcome}
pub use Rattle.wf_delivery.specs.Rounds.{AreTargets}
pub use Rattle.wf_farm.specs.Pump.{IsPumped, IsPumpedPart, Pumps, count}
unfoldable pub use Rattle.wf_delivery.specs.Rounds.{deliveries, rounds}
unfoldable pub use Rattle.wf_farm.specs.Pump.{NextMayAllocate}
pub use Rattle.wf_farm.specs.Start.{IsFreshAt}
pub use Rattle.wf_farm.specs.FallibleStep.{Fares, Goes, GoesThere, IsCutTape, IsTornTo, acted, received_as, kept_beyond, stored_by}
unfoldable pub use Rattle.wf_farm.specs.FallibleStep.{IsIdle, ReportsWhyNot}
unfoldable pub use Rattle.wf_delivery.specs.Turn.{node_restarted, node_stopped, volatile_restarted}
pub use Rattle.wf_farm.specs.declared.carrier.CarrierFault.{CarrierFault}
pub use Rattle.wf_farm.specs.declared.fate.Happened.{Happened}
pub use Rattle.wf_farm.specs.declared.fault.FarmFault.{FarmFault}
pub use Rattle.wf_farm.specs.declared.fault.FarmFault.TheVariants.{Memory, NoNode}
pub use Rattle.wf_farm.specs.declared.cluster.NodeHost.{NodeHost}
pub use Rattle.wf_farm.specs.declared.cluster.NodeHost.TheVariants.{Running, Stopped}
pub use Rattle.wf_farm.specs.declared.progress.PumpEnd.{PumpEnd}
pub use Rattle.wf_farm.specs.declared.progress.PumpEnd.TheVariants.{Done, Failed}
pub use Rattle.wf_delivery.specs.declared.progress.PumpProgress.{PumpProgress}
pub use Rattle.wf_farm.specs.declared.rejection.Rejection.{Rejection}
