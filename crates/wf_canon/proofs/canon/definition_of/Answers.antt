use Rattle.std.proofs.Common.{refl}
use Rattle.std.specs.Str.{is_utf8}
use Rattle.wf_canon.proofs.MeaningTheorem.{why_unread, means-is_utf8}
use Rattle.wf_canon.proofs.canon.definition_of.Goals as goal

pub returns-in-Err-clause-cause : goal.returns-in-Err-clause-cause
returns-in-Err-clause-cause c =
    why_unread c.in-Err.fault c.rejection_of.result c.args.bytes.now c.requires c.rejection_of.ensures c.in-Err.ensures.not_utf8 c.in-Err.ensures.refused

pub returns-in-Ok-clause-utf8 : goal.returns-in-Ok-clause-utf8
returns-in-Ok-clause-utf8 c = means-is_utf8 c.args.bytes.now c.in-Ok.def (is_utf8 c.args.bytes.now) refl c.in-Ok.ensures.meant
