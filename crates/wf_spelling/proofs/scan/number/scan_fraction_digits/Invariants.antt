use Rattle.wf_spelling.proofs.ScannedNumber.{IsFraction}
use Rattle.wf_spelling.proofs.scan.number.scan_fraction_digits.Given as goal

-- the digits so far are those of a fraction
abbrev pub invariant-loop-places : goal.invariant-loop-places
invariant-loop-places l = IsFraction l.fn.cursor l.places l.unit l.parts l.last l.cursor

abbrev pub decreases-loop-places : goal.decreases-loop-places
decreases-loop-places l = l.places
