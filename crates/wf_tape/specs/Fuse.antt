-- The failure that a tape in memory will have, counted down by its calls.
use Rattle.std.specs.Prelude.{ℕ, zero, suc, Option, Some, None}
use Rattle.wf_tape.specs.declared.memory.Fuse.{Fuse}

-- The call with this number from now, counted from 1, fails and keeps so much. There is no call 0.
unfoldable pub fuse_at : ℕ → ℕ → Option Fuse
fuse_at zero kept = None
fuse_at (suc before) kept = Some (record { before = before; kept = kept })

-- the fuse after a call: it is one call nearer, and gone after the call that fails
unfoldable pub count_down : Option Fuse → Option Fuse
count_down None = None
count_down (Some fuse) = fuse_at fuse.before fuse.kept

-- how much is kept by the next call, if that one fails
unfoldable pub burn_at : ℕ → ℕ → Option ℕ
burn_at zero kept = Some kept
burn_at (suc before) kept = None

unfoldable pub burn : Option Fuse → Option ℕ
burn None = None
burn (Some fuse) = burn_at fuse.before fuse.kept
