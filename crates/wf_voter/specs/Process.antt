-- The process that a voter is, for the crates above, which name no crate below this one for it.
pub use Rattle.wf_actor.specs.declared.actor.Actor.{Actor}
pub use Rattle.wf_actor.specs.declared.actor.Origin.{Origin}
pub use Rattle.wf_actor.specs.declared.process.Process.{Process}
pub use Rattle.wf_actor.specs.Process.{IsJustOpened}
pub use Rattle.wf_actor.specs.Start.{IsOpened}
