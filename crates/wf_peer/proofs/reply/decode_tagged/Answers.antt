-- Nothing is remembered after a zero.
use Rattle.wf_peer.proofs.Decoded.{few_after_one, handed_on, no_error, nothing_after_zero}
use Rattle.wf_peer.proofs.reply.decode_tagged.Goals as goal

pub returns-in-0-clause-front : goal.returns-in-0-clause-front
returns-in-0-clause-front c = (c.args.bytes.now, let is = c.in-0.is in cc)

pub returns-in-0-clause-begins : goal.returns-in-0-clause-begins
returns-in-0-clause-begins c = λ p more is some e. absurd (nothing_after_zero c.args.bytes.now more p some (let zero = c.in-0.is in cc))

pub returns-in-Ok-clause-begins : goal.returns-in-Ok-clause-begins
returns-in-Ok-clause-begins c = λ p more is some e.
    absurd (no_error c.in-Ok.progress _ (c.in-Ok.ensures.begins (few_after_one c.args.bytes.now more p is some (let one = c.in-1.is in cc))))

pub returns-in-Err-clause-begins : goal.returns-in-Err-clause-begins
returns-in-Err-clause-begins c = λ p more is some e.
    handed_on c.in-Err.fault _ (c.in-Err.ensures.begins (few_after_one c.args.bytes.now more p is some (let one = c.in-1.is in cc)))
