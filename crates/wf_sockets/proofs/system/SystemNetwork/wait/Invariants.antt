use Rattle.std.specs.Prelude.{◌≡◌, ◌≤◌, length}
use Rattle.wf_sockets.proofs.system.SystemNetwork.wait.Given as goal

abbrev pub invariant-loop-event : goal.invariant-loop-event
invariant-loop-event l = (l.count ≤ length l.tokens) × (length l.tokens ≡ length l.initial.tokens)
