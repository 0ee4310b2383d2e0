use Rattle.std.proofs.Common.{ℕ, List, ◌++◌, refl, ◌∙◌, ap}
use Rattle.wf_frame.specs.Row.{row_bytes}
use Rattle.wf_journal.specs.Record.{view, texts}
use Rattle.wf_journal.specs.Version.{version_byte}
use Rattle.wf_journal.proofs.Written.{written, counted}
use Rattle.wf_journal.proofs.encoder.push.Goals as goal

pub returns-clause-spelled : goal.returns-clause-spelled
returns-clause-spelled c =
    let r = view c.args.entry.now in
    let filled = c.put_fields-kind.ensures in
    let text = c.put_fields-kind.result.1.now in
    written c.args.out.now.items c.reserve.new.self.items c.put_header.new.out.items c.put.new.out.items c.put-2.new.out.items c.put_fields-kind.new.fields.items text r
    c.byte.result c.put_fields-kind.result.0 (c.byte.ensures ∙ ap version_byte c.current.ensures) filled.kind filled.body c.reserve.ensures.items
    (c.put_header.ensures.frame (row_bytes (texts r)) (counted c.put_fields-kind.new.fields.items text r _ _ filled.body c.len.ensures.value refl))
    (c.put.ensures.items ∙ ap (λ (t : List ℕ). c.put_header.new.out.items ++ t) c.as_slice.ensures.value) c.put-2.ensures.items
