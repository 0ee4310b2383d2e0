use Rattle.std.proofs.Common.{refl, Some}
use Rattle.std.proofs.lemmas.Slice.Eq.{strip_prefix_is}
use Rattle.std.proofs.lemmas.Bool.Decides.{Decides-eqb}
use Rattle.wf_spelling.proofs.ScanSequences.{past}
use Rattle.wf_spelling.proofs.scan.cursor.Cursor.skip.Goals as goal

pub returns-in-Some-clause-past : goal.returns-in-Some-clause-past
returns-in-Some-clause-past c e =
    past c.args.piece.now refl (strip_prefix_is Decides-eqb c.args.self.now.rest.now c.args.piece.now (Some c.in-Some.rest) c.in-Some.ensures.cases)
