-- Whether it is time to do something.
use Rattle.std.specs.Prelude.{◌≤◌, ◌==◌, ℕ, Bool, true, not, Option, Some, None}
use Rattle.wf_timing.specs.declared.alarm.Alarm.{Alarm}

-- an alarm was set, and is due
abbrev pub IsDue : Option Alarm → ℕ → Type 0
IsDue None time = ⊥
IsDue (Some alarm) time = alarm.due ≤ time

-- the last number is another one, or there was none
abbrev pub differs : Option ℕ → ℕ → Bool
differs None n = true
differs (Some last) n = not (last == n)
