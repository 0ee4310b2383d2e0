use Rattle.std.proofs.Common.{sym, ◌∙◌}
use Rattle.wf_spelling.specs.Canon.{canon}
use Rattle.wf_spelling.proofs.WriteSequences.{whole_text, is_long, is_short}
use Rattle.wf_spelling.proofs.text.text_of.Goals as goal

pub returns-then-is_too_long-clause-cause : goal.returns-then-is_too_long-clause-cause
returns-then-is_too_long-clause-cause c =
    is_long (whole_text c.with_room-draft.ensures c.push_map.ensures.written) (sym c.is_too_long.ensures ∙ c.if-is_too_long.true)

pub returns-in-Ok-clause-written : goal.returns-in-Ok-clause-written
returns-in-Ok-clause-written c = c.in-Ok.ensures (canon c.args.def.now) (whole_text c.with_room-draft.ensures c.push_map.ensures.written)

pub returns-in-Ok-clause-short : goal.returns-in-Ok-clause-short
returns-in-Ok-clause-short c =
    is_short (whole_text c.with_room-draft.ensures c.push_map.ensures.written) (sym c.is_too_long.ensures ∙ c.if-is_too_long.false)

pub returns-in-Err-clause-cause : goal.returns-in-Err-clause-cause
returns-in-Err-clause-cause c =
    is_short (whole_text c.with_room-draft.ensures c.push_map.ensures.written) (sym c.is_too_long.ensures ∙ c.if-is_too_long.false)
