use Rattle.std.proofs.Common.{refl}
use Rattle.wf_spelling.proofs.ScannedNumber.{no_fraction, some_fraction}
use Rattle.wf_spelling.proofs.scan.number.scan_fraction.Goals as goal

pub returns-then-not-skip-clause-scanned : goal.returns-then-not-skip-clause-scanned
returns-then-not-skip-clause-scanned c = no_fraction (c.if-not-skip.ensures.unchanged refl)

pub returns-clause-scanned : goal.returns-clause-scanned
returns-clause-scanned c = some_fraction c.in_ok-parts.parts c.if-parts-eq0.false (c.if-not-skip.ensures.past refl) c.in_ok-parts.ensures.scanned
