-- The bytes of a progress are fifty-four.
use Rattle.std.proofs.Common.{◌∙◌, ap, length, length-append, arith}
use Rattle.wf_peer.specs.Greeting.{progress_bytes}
use Rattle.wf_peer.proofs.Decoded.{take_front}
use Rattle.wf_peer.proofs.Sizes.{length_of_progress}
use Rattle.wf_peer.proofs.reply.decode_progress.Goals as goal

pub returns-then-bytes-lt-PROGRESS-clause-each : goal.returns-then-bytes-lt-PROGRESS-clause-each
returns-then-bytes-lt-PROGRESS-clause-each c = λ p rest is e.
    absurd (omega (arith, ap length e, length-append (progress_bytes p) rest, length_of_progress p is))

pub returns-in-Some-clause-each : goal.returns-in-Some-clause-each
returns-in-Some-clause-each c = λ p rest is e.
    let same = c.in-Some.ensures.each p is (c.split_at.ensures.front ∙ take_front 54 c.args.bytes.now (progress_bytes p) rest (length_of_progress p is) e) in
    cc

pub returns-in-None-clause-each : goal.returns-in-None-clause-each
returns-in-None-clause-each c = λ p rest is e.
    let same = c.in-None.ensures.each p is (c.split_at.ensures.front ∙ take_front 54 c.args.bytes.now (progress_bytes p) rest (length_of_progress p is) e) in
    cc
