-- The first text, and the others.
use Rattle.std.proofs.Common.{arith}
use Rattle.wf_reader.proofs.Sizes.{length_of_whole}
use Rattle.wf_reader.proofs.reply_encoder.+texts_length.Goals as goal

pub returns-in-len1-up-clause-value : goal.returns-in-len1-up-clause-value
returns-in-len1-up-clause-value t c =
    omega (arith, length_of_whole c.args.definitions.now c.definition-item.result (omega (arith, c.in-len1-up.len_at_least)) c.definition-item.is, c.text_length.ensures.value, c.texts_length.ensures.value)
