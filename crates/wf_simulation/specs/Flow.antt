-- What is on its way in a direction.
use Rattle.std.specs.Prelude.{◌≡◌, ◌≢◌, true, false, None}
use Rattle.wf_simulation.specs.declared.flow.Flow.{Flow}

-- a reset is on its way, and a step of it is due, unless the direction is lost
pub record IsReset (flow : Flow) : Type 0 where
  pub reset : flow.has_reset ≡ true
  pub due : flow.is_lost ≡ false → flow.due ≢ None
