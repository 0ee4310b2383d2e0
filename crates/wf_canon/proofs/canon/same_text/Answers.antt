use Rattle.std.proofs.Common.{◌∙◌}
use Rattle.wf_canon.proofs.MeaningTheorem.{other_has_no_canon, unlike, why_rejected_again}
use Rattle.wf_canon.proofs.canon.same_text.Goals as goal

pub returns-then-ne-clause-cause : goal.returns-then-ne-clause-cause
returns-then-ne-clause-cause c =
    other_has_no_canon c.args.bytes.now c.in-Ok.text.items c.args.def.now c.requires.short c.requires.meant c.in-Ok.ensures.written
    (λ same. unlike c.as_slice.result.now c.args.bytes.now c.if-ne.ensures (c.as_slice.ensures.value ∙ same))

pub returns-in-Err-clause-cause : goal.returns-in-Err-clause-cause
returns-in-Err-clause-cause c =
    rw c.reject_again.ensures (why_rejected_again c.in-Err.fault c.args.bytes.now c.args.def.now c.requires.short c.requires.meant c.in-Err.ensures.cause)
