-- The first four bytes are the length of what follows them.
use Rattle.std.proofs.Common.{◌∙◌, ◌+◌, ap, ℕ, arith}
use Rattle.std.specs.Prelude.{Ok}
use Rattle.wf_reader.proofs.Sizes.{length_read, length_within}
use Rattle.wf_reader.proofs.reply_decoder.reply_length.Goals as goal

pub returns-then-length-gt-MOST_REPLY_BYTES-clause-each : goal.returns-then-length-gt-MOST_REPLY_BYTES-clause-each
returns-then-length-gt-MOST_REPLY_BYTES-clause-each c = λ reply rest is e four.
    absurd (omega (arith, length_read c.args.bytes.now rest reply is four e, length_within reply is, c.if-length-gt-MOST_REPLY_BYTES.true, c.stated_length-length.ensures.value))

pub returns-clause-each : goal.returns-clause-each
returns-clause-each c = λ reply rest is e four. ap (λ (n : ℕ). Ok n) (ap (λ (m : ℕ). 4 + m) c.stated_length-length.ensures.value ∙ length_read c.args.bytes.now rest reply is four e)
