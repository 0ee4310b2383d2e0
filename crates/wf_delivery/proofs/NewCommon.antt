-- The names that the proofs cite from elsewhere, passed on from one place. Declares nothing.
pub use Rattle.std.proofs.lemmas.Bool.{both_ways, cases_eq, cases_lt, false≢true}
pub use Rattle.std.proofs.lemmas.List.{append-nil, append_assoc, get_or_append_left, get_or_default, get_or_push, length-map, length_push, take_all, take_more}
pub use Rattle.std.proofs.lemmas.Option.{none-some, same_Some, slice_get_past, slice_get_within}
pub use Rattle.std.specs.List.{AllByRecursion}
pub use Rattle.std.specs.declared.alloc.Global.{Global}
unfoldable pub use Rattle.wf_ballot.specs.Ballot.{below}
pub use Rattle.wf_ballot.specs.Sequence.{last_sequence}
pub use Rattle.wf_codec.specs.declared.message.Message.{Message}
pub use Rattle.wf_def.specs.Definition.{Definition}
pub use Rattle.wf_def.specs.Equality.{definition_eq}
unfoldable pub use Rattle.wf_model.specs.Message.{first_vote}
pub use Rattle.wf_model.specs.StepsTheorems.{steps_in_turn}
pub use Rattle.wf_model.specs.DurableState.{DurableState}
unfoldable pub use Rattle.wf_model.specs.DurableState.{definition_at, next_sequence, nothing_stored, published, put, with_record}
pub use Rattle.wf_model.specs.Table.{Input, Transition, most_reports}
unfoldable pub use Rattle.wf_model.specs.Table.{accept_open, after_publishing, ask_votes, asking_votes, begin_at, ended, ends, is_new_response, leadership_of, on_accept, on_accepted, on_ask, on_catch_up, on_chosen, on_message, on_prepare, on_promise, on_propose, only_sends, prepare_open, promise_to, promised, propose_by, quiet, reject_proposal, reject_round, reports_from, reports_of, rounds_full, step_rejection, store, stores, transition, vote_for, voted, votes_at, votes_from, with_promise, with_proposal, with_vote}
pub use Rattle.wf_model.specs.VolatileState.{VolatileState}
unfoldable pub use Rattle.wf_model.specs.VolatileState.{and_node, at_start, better, better_each, carried, is_at, leading_at, nobody, proposed, same_ballot, same_phase}
pub use Rattle.wf_model.specs.World.{World, deliver, propose}
unfoldable pub use Rattle.wf_model.specs.World.{after_turn, delivered, happens, input_of, start, steps, stored_after, turn, turn_of, turn_running, with_node}
pub use Rattle.wf_node.specs.Growth.{transition_grown}
pub use Rattle.wf_node.specs.Node.{Node, stored_of, volatile_of}
pub use Rattle.wf_node.specs.Step.{IsTransition, IsSameNode, IsStep, transition_of}
pub use Rattle.wf_node.specs.declared.fault.NodeFault.{NodeFault}
pub use Rattle.wf_delivery.specs.Delivery.{AnyPart, AreHanded, AreHandedOut, AreNodes, First, IsHanded, KeepTurn, Next, Refines, StandInTurn}
unfoldable pub use Rattle.wf_delivery.specs.Delivery.{KeepHalted, NoneHalted}
pub use Rattle.wf_delivery.specs.DeliveryTheorems.{keeps_turn, keeps_turn_itself, keeps_turn_twice, none_before}
pub use Rattle.wf_delivery.specs.NodeInput.{Answers, Takes}
pub use Rattle.wf_delivery.specs.Reachability.{IsFresh, outputs_by}
unfoldable pub use Rattle.wf_delivery.specs.Reachability.{AreFresh}
pub use Rattle.wf_delivery.specs.IndexTheorems.{get_set_other, get_set_same, set_there}
pub use Rattle.wf_delivery.specs.Progress.{begun, counted, next}
pub use Rattle.wf_delivery.specs.Publication.{HaveBeenDelivered, DeliveredExactly, NewStayNew, PublishedOnAll}
unfoldable pub use Rattle.wf_delivery.specs.Publication.{AllPublish}
pub use Rattle.wf_delivery.specs.Rounds.{AreTargets}
unfoldable pub use Rattle.wf_delivery.specs.Rounds.{deliveries, rounds, to_each}
pub use Rattle.wf_delivery.specs.declared.progress.PumpProgress.{PumpProgress}
