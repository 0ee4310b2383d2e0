-- The theorems beneath agreement, on the farm that a caller holds: they hold of the world that it
-- is.
use Rattle.std.specs.Prelude.{length, drop}
use Rattle.wf_def.specs.Definition.{Definition}
use Rattle.wf_def.specs.Equality.{definition_eq}
use Rattle.wf_model.specs.Chosen.{IsIn}
use Rattle.wf_model.specs.Message.{Message}
use Rattle.wf_model.specs.World.{World, Event, happens}
use Rattle.wf_safety.specs.Theorems.{AsksForItself, KeptPromisesIn, OwnBallotsIn, PromisedMajorityIn, node_of}
use Rattle.wf_farm.specs.Farm.{MemoryFarm, Refines, size}

-- Each ballot is of a round that its own node stored before; promises are requested at it from one
-- sequence on, and votes for one definition at each sequence. A node that sends a Prepare or an
-- Accept in any next event sends it at a ballot of its own, whose proposal it runs.
pub record HasOwnBallots (farm : MemoryFarm) : Type 0 where
  pub now : (w : World Definition) → Refines farm w → OwnBallotsIn w
  pub next : (w : World Definition) (event : Event Definition) (message : Message Definition) → Refines farm w →
      IsIn message (drop (length w.sent) (happens definition_eq w event).sent) → AsksForItself (happens definition_eq w event) (node_of event) message

-- Each node is bound by what it promised: its promise never decreases, it sends no vote below it at
-- any sequence, and each vote that it stored or reported was asked for.
unfoldable pub HasKeptPromises : MemoryFarm → Type 0
HasKeptPromises farm = (w : World Definition) → Refines farm w → KeptPromisesIn w

-- Each Accept has a majority of promises for it, made from its sequence or one of the three before
-- it on, and carries the highest vote that they reported for its sequence; so it carries what was
-- chosen at a lower ballot.
unfoldable pub HasPromisedMajorities : MemoryFarm → Type 0
HasPromisedMajorities farm = (w : World Definition) → Refines farm w → PromisedMajorityIn (size farm) w.sent
