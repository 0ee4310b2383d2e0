-- The number of the digits so far.
use Rattle.std.proofs.Common.{◌≡◌, ◌-◌, ◌^◌, min, take}
use Rattle.wf_text.specs.Number.{number_of_digits}
use Rattle.wf_text.proofs.digits.number_of_digits.Given as goal

abbrev pub invariant-loop-digit : goal.invariant-loop-digit
invariant-loop-digit l = l.number ≡ min (number_of_digits (take l.digit-index l.digits)) (2 ^ 64 - 1)
