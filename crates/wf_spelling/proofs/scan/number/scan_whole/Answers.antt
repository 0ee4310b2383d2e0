use Rattle.std.proofs.Common.{arith}
use Rattle.wf_spelling.proofs.ScanSequences.{then_nothing}
use Rattle.wf_spelling.proofs.ScannedNumber.{first_digit, digit_more}
use Rattle.wf_spelling.proofs.scan.number.scan_whole.Goals as goal

pub loop-init : goal.loop-init
loop-init c = record {
  scanned = rw c.from-whole.ensures (first_digit c.in_ok-first.first c.in_ok-first.ensures.value c.in_ok-first.ensures.past);
  below = omega (arith, c.from-whole.ensures, c.in_ok-first.ensures.value);
}

pub loop-preserved : goal.loop-preserved
loop-preserved c = record {
  scanned = rw c.from.ensures (digit_more c.loop.whole c.in-Some.digit (omega (arith, c.if-whole-eq0.false)) c.if-whole-ge-MANY.false c.in-Some.ensures.value c.loop.invariant.scanned c.in-Some.ensures.past);
  below = omega (arith, c.from.ensures, c.in-Some.ensures.value, c.if-whole-ge-MANY.false);
}

pub returns-in-None-clause-scanned : goal.returns-in-None-clause-scanned
returns-in-None-clause-scanned c = then_nothing c.loop.invariant.scanned c.in-None.ensures.unchanged
