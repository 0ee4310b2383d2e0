use Rattle.std.proofs.Common.{◌≡◌, ◌/◌, ◌^◌}
use Rattle.wf_text.proofs.number.capped_quotient.Given as goal

abbrev pub invariant-loop-done : goal.invariant-loop-done
invariant-loop-done l = l.capped_quotient ≡ l.value / 10 ^ l._done
