-- The first four bytes are the length of the text.
use Rattle.std.proofs.Common.{◌∙◌, ap, sym, length, length-append, arith}
use Rattle.std.specs.Int.{w32, from_be_bytes}
use Rattle.wf_reader.proofs.Parts.{drop_front, take_front}
use Rattle.wf_reader.proofs.Sizes.{text_front, text_whole}
use Rattle.wf_reader.proofs.reply_decoder.cut_text.Goals as goal

pub returns-then-bytes-lt4-clause-each : goal.returns-then-bytes-lt4-clause-each
returns-then-bytes-lt4-clause-each c = λ text after fits e. absurd (omega (arith, (text_front c.args.bytes.now text after fits e).four, c.if-bytes-lt4.true))

pub returns-then-rest-length-clause-each : goal.returns-then-rest-length-clause-each
returns-then-rest-length-clause-each c = λ text after fits e.
    let cut = text_front c.args.bytes.now text after fits e in
    absurd (omega (
      arith,
      c.if-rest-length.true,
      c.number_of-length.ensures.value ∙ ap (from_be_bytes w32) c.split_at.ensures.front ∙ cut.stated,
      ap length (c.split_at.ensures.back ∙ cut.behind),
      length-append text after,
    ))

pub returns-clause-some : goal.returns-clause-some
returns-clause-some c =
    text_whole c.args.bytes.now c.split_at.result.0.now c.split_at.result.1.now c.split_at-2.result.0.now c.split_at-2.result.1.now c.number_of-length.result c.split_at.ensures.front c.split_at.ensures.back
    c.number_of-length.ensures.bytes (omega (arith, c.if-rest-length.false)) c.split_at-2.ensures.front c.split_at-2.ensures.back

pub returns-clause-each : goal.returns-clause-each
returns-clause-each c = λ text after fits e.
    let cut = text_front c.args.bytes.now text after fits e in
    let size = c.number_of-length.ensures.value ∙ ap (from_be_bytes w32) c.split_at.ensures.front ∙ cut.stated in
    let behind = c.split_at.ensures.back ∙ cut.behind in (
      c.split_at-2.ensures.front ∙ take_front c.number_of-length.result c.split_at.result.1.now text after (sym size) behind,
      c.split_at-2.ensures.back ∙ drop_front c.number_of-length.result c.split_at.result.1.now text after (sym size) behind,
    )
