use Rattle.std.proofs.Common.{ℕ, List, ◌++◌, ◌∙◌, ap, arith}
use Rattle.wf_frame.specs.Row.{row_bytes}
use Rattle.wf_codec.specs.Message.{view, texts}
use Rattle.wf_codec.specs.Encoding.{written_end}
use Rattle.wf_codec.proofs.Encoded.{put_together, counted, length-text_spelling, on_error}
use Rattle.wf_codec.proofs.encoder.encode.Goals as goal

pub returns-clause-ok : goal.returns-clause-ok
returns-clause-ok c =
    let m = view c.args.message.now in
    let filled = c.put_fields-kind.ensures in
    put_together c.args.out.now.items c.reserve.new.self.items c.put_header.new.out.items c.put.new.out.items c.put_end.new.out.items c.put_fields-kind.new.fields.items
    (written_end c.put_fields-kind.result.1) m c.put_fields-kind.result.0 filled.kind filled.body c.reserve.ensures.items
    (c.put_header.ensures.frame (row_bytes (texts m)) (counted c.put_fields-kind.new.fields.items (written_end c.put_fields-kind.result.1) m _ _ filled.body c.len.ensures.value filled.length))
    (c.put.ensures.items ∙ ap (λ (t : List ℕ). c.put_header.new.out.items ++ t) c.as_slice.ensures.value) c.put_end.ensures

pub returns-in_err-reserve-clause-full : goal.returns-in_err-reserve-clause-full
returns-in_err-reserve-clause-full c =
    let m = view c.args.message.now in
    let filled = c.put_fields-kind.ensures in
    on_error c.from_residual.result (omega (
      arith,
      c.in_err-reserve.ensures.full,
      length-text_spelling (texts m),
      counted c.put_fields-kind.new.fields.items (written_end c.put_fields-kind.result.1) m _ _ filled.body c.len.ensures.value filled.length,
    ))
