use Rattle.std.proofs.Common.{rules, ◌<◌}
use Rattle.wf_spelling.proofs.ScanSequences.{nothing, if_some}
use Rattle.wf_spelling.proofs.ScannedNumber.{fraction_begins, fraction_goes_on, fraction_ends, fraction_most}
use Rattle.wf_spelling.proofs.scan.number.scan_fraction_digits.Goals as goal

pub loop-places-init : goal.loop-places-init
loop-places-init c = fraction_begins _

pub loop-places-preserved : goal.loop-places-preserved
loop-places-preserved c =
    let more : 0 < c.loop-places.places = search rules in
    rw c.from.ensures (fraction_goes_on c.loop-places.places c.loop-places.unit c.loop-places.parts c.loop-places.last c.in-Some.digit more c.in-Some.ensures.value c.loop-places.invariant c.in-Some.ensures.past)

pub returns-clause-scanned : goal.returns-clause-scanned
returns-clause-scanned c =
    if_some c.end_fraction-2.result (λ whole is. rw is.0 (fraction_ends c.loop-places.places c.loop-places.unit c.loop-places.parts c.loop-places.last is.1 c.loop-places.invariant (nothing _))) c.end_fraction-2.ensures

pub returns-clause-most : goal.returns-clause-most
returns-clause-most c = if_some c.end_fraction-2.result (λ whole is. rw is.0 (fraction_most c.loop-places.places c.loop-places.unit c.loop-places.parts c.loop-places.last c.loop-places.invariant)) c.end_fraction-2.ensures

pub returns-in-None-clause-scanned : goal.returns-in-None-clause-scanned
returns-in-None-clause-scanned c =
    if_some c.end_fraction.result (λ whole is. rw is.0 (fraction_ends c.loop-places.places c.loop-places.unit c.loop-places.parts c.loop-places.last is.1 c.loop-places.invariant c.in-None.ensures.unchanged)) c.end_fraction.ensures

pub returns-in-None-clause-most : goal.returns-in-None-clause-most
returns-in-None-clause-most c = if_some c.end_fraction.result (λ whole is. rw is.0 (fraction_most c.loop-places.places c.loop-places.unit c.loop-places.parts c.loop-places.last c.loop-places.invariant)) c.end_fraction.ensures
