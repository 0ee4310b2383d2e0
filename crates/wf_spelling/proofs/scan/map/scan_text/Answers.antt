use Rattle.std.proofs.Common.{refl}
use Rattle.wf_spelling.proofs.ScanSequences.{whole_text}
use Rattle.wf_spelling.proofs.scan.map.scan_text.Goals as goal

pub returns-clause-value : goal.returns-clause-value
returns-clause-value c = whole_text c.new-cursor.ensures c.in_ok-map.ensures (c.if-not-is_done.ensures refl)
