-- The names that the definitions cite from elsewhere, passed on from one place. Declares nothing.
pub use Rattle.std.proofs.lemmas.Bool.{both_ways, cases_eq}
pub use Rattle.std.proofs.lemmas.Option.{none-some, same_Some}
pub use Rattle.std.specs.declared.alloc.Global.{Global}
pub use Rattle.wf_codec.specs.declared.message.Message.{Message}
pub use Rattle.wf_def.specs.Definition.{Definition}
pub use Rattle.wf_def.specs.Equality.{definition_eq}
pub use Rattle.wf_safety.specs.Theorems.{IsBeginning}
pub use Rattle.wf_model.specs.DurableState.{DurableState, definition_at, nothing_stored}
pub use Rattle.wf_model.specs.Table.{Action, Input, StepRejection, store}
pub use Rattle.wf_model.specs.VolatileState.{VolatileState, at_start}
pub use Rattle.wf_model.specs.World.{Event, World, after, happens, steps}
pub use Rattle.wf_node.specs.Growth.{IsGrown, grown_itself, grown_twice}
pub use Rattle.wf_node.specs.Images.{EachIsCut, EachStandsFor, StandsFor}
pub use Rattle.wf_node.specs.Node.{Node, stored_of, volatile_of}
pub use Rattle.wf_node.specs.Step.{IsTransition, IsSameNode, IsStep, TakesMemory, entry_of, step_rejection_at, transition_of, stored_next}
pub use Rattle.wf_node.specs.declared.fault.NodeFault.{NodeFault}
pub use Rattle.wf_node.specs.declared.fault.NodeFault.TheVariants.{Halted}
pub use Rattle.wf_wms.specs.Answer.{AnswerValue, AsksForMap, IsAnswerOf}
