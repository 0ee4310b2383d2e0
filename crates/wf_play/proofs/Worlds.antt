-- The theorems of the model hold in the one world that a farm is.
use Rattle.std.proofs.Common.{◌≡◌, ◌∙◌, sym, subst, length, drop}
use Rattle.wf_def.specs.Definition.{Definition}
use Rattle.wf_def.specs.Equality.{definition_eq}
use Rattle.wf_model.specs.Chosen.{IsIn}
use Rattle.wf_model.specs.World.{World, after, happens}
use Rattle.wf_safety.specs.Theorems.{AsksForItself, KeptPromisesIn, OwnBallotsIn, PromisedMajorityIn, node_of}
use Rattle.wf_safety.proofs.Theorems.{kept_promises, own_ballots, promised_majority}
use Rattle.wf_farm.specs.Agreement.{IsOneWorld}
use Rattle.wf_farm.specs.Farm.{MemoryFarm, Refines, size}
use Rattle.wf_play.specs.Theorem.{HasKeptPromises, HasOwnBallots, HasPromisedMajorities}

-- a world that the farm shows is the one that its events lead to
reached : (farm : MemoryFarm) (one : IsOneWorld farm) (w : World Definition) → Refines farm w → after definition_eq (size farm) one.events ≡ w
reached farm one w refines = sym (one.no_other w refines ∙ one.reached)

pub own_ballots_there : (farm : MemoryFarm) → IsOneWorld farm → HasOwnBallots farm
own_ballots_there farm one = record {
  now = λ w refines. subst (λ (v : World Definition). OwnBallotsIn v) (reached farm one w refines) ((own_ballots Definition).facts definition_eq (size farm) one.events);
  next = λ w event message refines.
      subst (λ (v : World Definition). IsIn message (drop (length v.sent) (happens definition_eq v event).sent) → AsksForItself (happens definition_eq v event) (node_of event) message)
      (reached farm one w refines) ((own_ballots Definition).asked definition_eq (size farm) one.events event message);
}

pub kept_promises_there : (farm : MemoryFarm) → IsOneWorld farm → HasKeptPromises farm
unfolding HasKeptPromises
kept_promises_there farm one = λ w refines. subst (λ (v : World Definition). KeptPromisesIn v) (reached farm one w refines) (kept_promises Definition definition_eq (size farm) one.events)

pub promised_majorities_there : (farm : MemoryFarm) → IsOneWorld farm → HasPromisedMajorities farm
unfolding HasPromisedMajorities
promised_majorities_there farm one = λ w refines.
    subst (λ (v : World Definition). PromisedMajorityIn (size farm) v.sent) (reached farm one w refines) (promised_majority Definition definition_eq (size farm) one.events)
