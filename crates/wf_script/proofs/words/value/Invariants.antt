-- The number of the digits so far.
use Rattle.std.proofs.Common.{◌≡◌, ◌-◌, ◌^◌, min, take}
use Rattle.wf_script.specs.Words.{value}
use Rattle.wf_script.proofs.words.value.Given as goal

abbrev pub invariant-loop-digit : goal.invariant-loop-digit
invariant-loop-digit l = l.number ≡ min (value (take l.digit-index l.digits)) (2 ^ 64 - 1)
