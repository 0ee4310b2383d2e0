-- The first four bytes are the length of the others.
use Rattle.std.proofs.Common.{ap, length, arith}
use Rattle.wf_reader.proofs.Sizes.{length_of_reply, whole_body, whole_length}
use Rattle.wf_reader.proofs.reply_decoder.decode_reply.Goals as goal

pub returns-then-bytes-lt4-clause-each : goal.returns-then-bytes-lt4-clause-each
returns-then-bytes-lt4-clause-each c = λ reply is e. absurd (omega (arith, ap length e, length_of_reply reply, c.if-bytes-lt4.true))

pub returns-then-length-bytes-clause-each : goal.returns-then-length-bytes-clause-each
returns-then-length-bytes-clause-each c = λ reply is e. absurd (omega (arith, whole_length c.args.bytes.now reply is e, c.stated_length-length.ensures.value, c.if-length-bytes.true))

pub returns-clause-each : goal.returns-clause-each
returns-clause-each c = λ reply is e. c.decode_body.ensures.each reply is (whole_body c.args.bytes.now c.split_at.result.1.now reply c.split_at.ensures.back e)
