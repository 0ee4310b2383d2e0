-- The names that the proofs cite from elsewhere, passed on from one place. Declares nothing.
pub use Rattle.std.proofs.lemmas.Bool.{both_ways, cases_eq, cases_lt, false≢true, lt-ltb, ltb-false, ltb-true}
pub use Rattle.std.proofs.lemmas.List.{append-nil, take_all}
pub use Rattle.std.proofs.lemmas.Option.{none-some, same_Some, slice_get_cases, slice_get_past, slice_get_read, slice_get_within}
pub use Rattle.std.specs.declared.alloc.Global.{Global}
pub use Rattle.wf_ballot.specs.Sequence.{last_sequence}
pub use Rattle.wf_codec.specs.declared.message.Message.{Message}
pub use Rattle.wf_def.specs.Definition.{Definition}
pub use Rattle.wf_def.specs.Equality.{definition_eq}
pub use Rattle.wf_model.specs.DurableState.{DurableState}
unfoldable pub use Rattle.wf_model.specs.DurableState.{definition_at, next_sequence, published, with_record}
pub use Rattle.wf_model.specs.Table.{most_reports}
unfoldable pub use Rattle.wf_model.specs.Table.{on_ask, on_catch_up, on_chosen, on_message, only_sends, reports_from, reports_of, step_rejection, store, transition}
pub use Rattle.wf_model.specs.VolatileState.{VolatileState}
pub use Rattle.wf_model.specs.World.{World}
unfoldable pub use Rattle.wf_model.specs.World.{steps}
pub use Rattle.wf_node.specs.Node.{Node, stored_of, volatile_of}
pub use Rattle.wf_node.specs.Step.{IsTransition, transition_of}
pub use Rattle.wf_node.specs.TapeWrites.{bytes_of}
pub use Rattle.wf_catch_up.specs.CatchUp.{Asks, BringsOn, CatchUpIsReachable, EndsUp, FirstEndUp, HaveAsked, HaveCaughtUp, ReceivesAt, AreAnswersTo, IsBehind, IsLevelAt, IsOneQuestion, IsDeliveryTaken, LevelRests, OneChanges, Rests, lacks, lacks_by, rank, rank_at, rank_by}
unfoldable pub use Rattle.wf_catch_up.specs.CatchUp.{HasReceived, HasMost, StandLevel}
pub use Rattle.wf_delivery.specs.Delivery.{AnyPart, IsOne, Refines, StandFor, StandInTurn}
unfoldable pub use Rattle.wf_delivery.specs.Delivery.{TakeOne}
pub use Rattle.wf_delivery.specs.DeliveryTheorems.{halted_twice, keeps_turn_twice}
pub use Rattle.wf_delivery.specs.NodeInput.{IsSturdy, Takes}
pub use Rattle.wf_delivery.specs.Reachability.{AreReachableFrom, AreReachableSending, IsReachableWith}
unfoldable pub use Rattle.wf_delivery.specs.Reachability.{ReachSending}
pub use Rattle.wf_farm.specs.Nodes.{KeepEntries, KeepsEntry, node_in, nodes_in, nodes_of}
pub use Rattle.wf_farm.specs.NodesTheorems.{length-nodes, nodes_back, nodes_get, nodes_set}
pub use Rattle.wf_delivery.specs.IndexTheorems.{get_set_other, set_same, set_there, set_twice}
pub use Rattle.wf_farm.specs.declared.cluster.NodeHost.{NodeHost}
pub use Rattle.wf_farm.specs.declared.cluster.NodeHost.TheVariants.{Running, Stopped}
