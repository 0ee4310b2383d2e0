-- The first 66 bytes are the question's.
use Rattle.std.proofs.Common.{◌∙◌, ap, length, length-append, arith}
use Rattle.wf_reader.specs.Question.{question_body}
use Rattle.wf_reader.proofs.Parts.{length_of_body, take_front}
use Rattle.wf_reader.proofs.question_bytes.decode_body.Goals as goal

pub returns-then-bytes-lt-BODY-clause-each : goal.returns-then-bytes-lt-BODY-clause-each
returns-then-bytes-lt-BODY-clause-each c = λ q rest is e.
    absurd (omega (arith, ap length e, length-append (question_body q) rest, length_of_body q is))

pub returns-in-Some-clause-each : goal.returns-in-Some-clause-each
returns-in-Some-clause-each c = λ q rest is e.
    let same = c.in-Some.ensures.each q is (c.split_at.ensures.front ∙ take_front 66 c.args.bytes.now (question_body q) rest (length_of_body q is) e) in
    cc

pub returns-in-None-clause-each : goal.returns-in-None-clause-each
returns-in-None-clause-each c = λ q rest is e.
    let same = c.in-None.ensures.each q is (c.split_at.ensures.front ∙ take_front 66 c.args.bytes.now (question_body q) rest (length_of_body q is) e) in
    cc
