-- Nothing is stored.
use Rattle.std.proofs.Common.{refl}
use Rattle.wf_model.specs.DurableState.{nothing_stored}
use Rattle.wf_node.proofs.PersistentPart.{persistent_is}
use Rattle.wf_node.proofs.stored_part.DurablePart.new.Goals as goal

pub returns-clause-stored : goal.returns-clause-stored
unfolding nothing_stored
returns-clause-stored c = persistent_is 0 c.new-2.result.part c.in_ok-new.field-0.definitions nothing_stored refl c.new-2.ensures.acts c.in_ok-new.ensures
