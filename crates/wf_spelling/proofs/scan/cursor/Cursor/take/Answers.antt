use Rattle.std.proofs.Common.{refl}
use Rattle.wf_spelling.proofs.ScanSequences.{failed}
use Rattle.wf_spelling.proofs.scan.cursor.Cursor.take.Goals as goal

pub returns-then-not-skip : goal.returns-then-not-skip
returns-then-not-skip c = failed c.args.piece.now refl
