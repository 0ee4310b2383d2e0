use Rattle.wf_spelling.proofs.ScannedNumber.{whole_and_parts}
use Rattle.wf_spelling.proofs.scan.number.scan_magnitude.Goals as goal

pub returns-clause-scanned : goal.returns-clause-scanned
returns-clause-scanned c =
    rw (c.from.ensures, c.from-2.ensures) (whole_and_parts c.in_ok-whole.whole c.in_ok-parts.parts c.in_ok-parts.ensures.most c.in_ok-whole.ensures.scanned c.in_ok-parts.ensures.scanned)
