-- The effect of a stop and of a restart on its node alone.
use Rattle.std.specs.Prelude.{Option, Some, None}
use Rattle.wf_delivery.specs.Common.{VolatileState, at_start}
use Rattle.wf_model.specs.World.{Node}

-- the node once it is stopped
unfoldable pub node_stopped : {V : Type 0} → Node V → Node V
node_stopped node = record { stored = node.stored; volatile = None }

-- the volatile state of a node after a restart: a stopped node gets an empty one
unfoldable pub volatile_restarted : {V : Type 0} → Option (VolatileState V) → Option (VolatileState V)
volatile_restarted None = Some at_start
volatile_restarted (Some volatile) = Some volatile

unfoldable pub node_restarted : {V : Type 0} → Node V → Node V
node_restarted node = record { stored = node.stored; volatile = volatile_restarted node.volatile }
