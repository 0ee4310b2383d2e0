-- The model of a node's proposer maps to the same volatile state of wf_model.
use Rattle.std.proofs.Common.{◌≡◌, true, false, Option, refl}
use Rattle.wf_def.specs.Definition.{Definition}
use Rattle.wf_model.specs.VolatileState.{Leadership}
use Rattle.wf_proposer.specs.VolatileState as held
use Rattle.wf_proposer.specs.VolatileState.{leading_of}
use Rattle.wf_proposer.specs.declared.volatile.Proposing.{Proposing}
use Rattle.wf_proposer.specs.declared.volatile.Proposing.TheVariants.{Idle, Running, Ended}
use Rattle.wf_proposer.specs.declared.volatile.VolatileState.{VolatileState}
use Rattle.wf_node.specs.VolatileState as node_volatile
use Rattle.wf_node.specs.VolatileState.{shown, shown_proposing}

proposing_shown : (leadership : Option (Leadership Definition)) (p : Proposing) → node_volatile.proposing_of (shown_proposing leadership p) ≡ held.proposing_of leadership p
proposing_shown leadership Idle = refl
proposing_shown leadership (Running p phase) = refl
proposing_shown leadership (Ended s true) = refl
proposing_shown leadership (Ended s false) = refl

pub volatile_shown : (w : VolatileState) → node_volatile.volatile_of (shown w) ≡ held.volatile_of w
volatile_shown w = λ i. record { proposing = proposing_shown (leading_of w.leadership) w.proposing i; leadership = leading_of w.leadership }
