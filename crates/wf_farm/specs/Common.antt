-- The names that the definitions cite from elsewhere, passed on from one place. Declares nothing.
pub use Rattle.std.proofs.lemmas.Bool.{cases_eq}
pub use Rattle.std.proofs.lemmas.Option.{none-some, same_Some, slice_get_within}
pub use Rattle.std.specs.declared.alloc.Global.{Global}
pub use Rattle.wf_codec.specs.declared.message.Message.{Message}
pub use Rattle.wf_def.specs.Definition.{Definition}
pub use Rattle.wf_def.specs.Equality.{definition_eq}
pub use Rattle.wf_safety.specs.Theorems.{IsBeginning}
pub use Rattle.wf_model.specs.DurableState.{Record, DurableState, definition_at}
pub use Rattle.wf_model.specs.Table.{Action, Input, StepRejection, most_reports}
pub use Rattle.wf_model.specs.VolatileState.{at_start}
pub use Rattle.wf_model.specs.World.{Event, World, after, deliver, happens, input_of, propose, refused, rejected_at, start, steps, turn}
pub use Rattle.wf_model.specs.declared.action.Kept.{Kept}
pub use Rattle.wf_node.specs.Images.{AllStandFor, EachIsCut}
pub use Rattle.wf_node.specs.Node.{Node, stored_of, volatile_of}
pub use Rattle.wf_node.specs.Step.{IsTransition, entry_of, step_rejection_at, transition_of, stored_next}
pub use Rattle.wf_node.specs.declared.fault.NodeFault.{NodeFault}
pub use Rattle.wf_tape.specs.MemoryTape.{IsImageNow, NeverFails, TapeValue, with_fuse}
pub use Rattle.wf_wms.specs.Answer.{AnswerValue, AsksForMap, IsAnswerOf}
