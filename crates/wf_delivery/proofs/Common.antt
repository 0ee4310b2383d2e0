-- The names that the proofs cite from elsewhere, passed on from one place. Declares nothing.
pub use Rattle.std.proofs.lemmas.Bool.{both_ways, cases_eq, cases_lt, false≢true}
pub use Rattle.std.proofs.lemmas.Bool.Decides.{nat_tests}
pub use Rattle.std.proofs.lemmas.List.{append-nil, length-map, map-append, take-append-drop}
pub use Rattle.std.proofs.lemmas.Option.{none-some, same_Some, slice_get-map, slice_get_read, slice_get_within}
pub use Rattle.std.specs.declared.alloc.Global.{Global}
pub use Rattle.wf_ballot.specs.Ballot.{Ballot}
pub use Rattle.wf_codec.specs.declared.message.Message.{Message}
pub use Rattle.wf_def.specs.Definition.{Definition, empty_map}
pub use Rattle.wf_def.specs.Equality.{definition_eq}
pub use Rattle.wf_journal.specs.Journal.{Follows, ReadsSame}
pub use Rattle.wf_journal.specs.Records.{AreReadOneWay}
unfoldable pub use Rattle.wf_safety.specs.Earlier.{raised, sent_before}
pub use Rattle.wf_safety.specs.Theorems.{IsBeginning}
unfoldable pub use Rattle.wf_model.specs.Chosen.{definition, history, history_of}
pub use Rattle.wf_model.specs.StepsTheorems.{steps_in_turn}
pub use Rattle.wf_model.specs.DurableState.{Record, DurableState}
unfoldable pub use Rattle.wf_model.specs.DurableState.{definition_at, fold, fold_from, nothing_stored, published, with_record}
pub use Rattle.wf_model.specs.Table.{Action, Input, StepRejection, most_reports}
unfoldable pub use Rattle.wf_model.specs.Table.{step_rejection, transition, store}
pub use Rattle.wf_model.specs.VolatileState.{VolatileState}
unfoldable pub use Rattle.wf_model.specs.VolatileState.{at_start}
pub use Rattle.wf_model.specs.World.{Act, After, Before, Event, Restart, Stop, Torn, Turn, World, deliver}
unfoldable pub use Rattle.wf_model.specs.World.{after, after_restart, after_stop, after_torn, after_turn, delivered, happens, input_of, kept_part, step_rejection_of, step_rejection_running, rejected_at, restart_stopped, start, steps, stop_running, stored_after, turn, turn_of, turn_running, with_node}
pub use Rattle.wf_node.specs.Growth.{IsGrown, grown_itself, transition_grown, same_grown}
pub use Rattle.wf_node.specs.Images.{AllStandFor, EachStandsFor, StandsFor}
pub use Rattle.wf_node.specs.Node.{Node, stored_of, volatile_of}
pub use Rattle.wf_node.specs.OpenedNode.{IsFoldOf}
pub use Rattle.wf_node.specs.Step.{IsTransition, IsSameNode, IsStep, step_rejection_at, transition_of}
pub use Rattle.wf_node.specs.TapeWrites.{bytes_of}
pub use Rattle.wf_node.specs.declared.fault.NodeFault.{NodeFault}
pub use Rattle.wf_tape.specs.MemoryTape.{IsImageNow}
pub use Rattle.wf_tape.specs.Tape.{IsExtended, IsUnchanged}
pub use Rattle.wf_delivery.specs.Delivery.{AnyPart, AreChanged, AreDelivered, AreHandedOut, AreNodes, Changed, First, ComeSoFar, IsDelivered, IsDelivery, IsGiven, IsHanded, IsNodeBy, IsOne, IsReachableByDeliveries, Next, Refines, StandFor, StandInTurn, Unchanged}
unfoldable pub use Rattle.wf_delivery.specs.Delivery.{AreDeliveries, KeepHalted, ReachByDeliveries, MayLeaveOfEach, StandAmong, TakeOne}
pub use Rattle.wf_delivery.specs.DeliveryTheorems.{each_grows_itself, halted_itself, halted_twice, keeps_turn, keeps_turn_itself, keeps_turn_twice}
pub use Rattle.wf_delivery.specs.SturdyTheorems.{any_sturdy, still_runs}
pub use Rattle.wf_delivery.specs.NodeInput.{Answers, MayBeLost, Takes, is_halt, is_memory, reports_halt}
pub use Rattle.wf_delivery.specs.Reachability.{AreReachable, AreReachableSending, BothAreOutput, DeliveriesAreReachable, FreshAreReachable, FreshOnTape, IsFresh, IsOwnInput, IsReachableFrom, IsReachableWith, NothingIsOutput, NothingIsReachable, ReachableIsTransitive, ReachableOnTape, ReachableStaysReachable, StepIsReachable, UnheardIsReachable, fresh_node, outputs_by}
unfoldable pub use Rattle.wf_delivery.specs.Reachability.{AreFresh, HaveOneAnswer, HaveOneHistory, HaveOneMapAnswer, ReachSending, Reach}
pub use Rattle.wf_delivery.specs.IndexTheorems.{get_set_other, get_set_same, set_same, set_there}
pub use Rattle.wf_delivery.specs.Progress.{AreCounted, begun, counted, most_deliveries, next}
pub use Rattle.wf_delivery.specs.ReopenedNodes.{AreReopened, HasStoredAgain, IsReopened, ReopenedAreReachable, ReopenedOnTape}
unfoldable pub use Rattle.wf_delivery.specs.Turn.{node_restarted, node_stopped, volatile_restarted}
pub use Rattle.wf_delivery.specs.declared.progress.PumpProgress.{PumpProgress}
