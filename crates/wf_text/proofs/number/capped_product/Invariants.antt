use Rattle.std.proofs.Common.{◌≡◌, ◌+◌, ◌*◌, ◌^◌, min}
use Rattle.wf_text.specs.Limit.{most_millionths}
use Rattle.wf_text.proofs.number.capped_product.Given as goal

abbrev pub invariant-loop-done : goal.invariant-loop-done
invariant-loop-done l = l.capped_product ≡ min (l.value * 10 ^ l._done) (most_millionths + 1)
