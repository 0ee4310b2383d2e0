-- The parts of the bytes are those of the answer.
use Rattle.std.proofs.Common.{◌∙◌, ap, sym, length, arith}
use Rattle.wf_reader.proofs.Fields.{fields_parts, fields_whole, same_answer}
use Rattle.wf_reader.proofs.Sizes.{length_of_fields}
use Rattle.wf_reader.specs.Reply.{answer_fields}
use Rattle.wf_reader.proofs.reply_decoder.answer_of.Goals as goal

pub returns-then-distance-gt-MOST_DISTANCE-clause-each : goal.returns-then-distance-gt-MOST_DISTANCE-clause-each
returns-then-distance-gt-MOST_DISTANCE-clause-each c = λ a is distance e. absurd (omega (arith, is.distance, distance, c.if-distance-gt-MOST_DISTANCE.true))

pub returns-then-bytes-lt-ANSWER_FIELDS-clause-each : goal.returns-then-bytes-lt-ANSWER_FIELDS-clause-each
returns-then-bytes-lt-ANSWER_FIELDS-clause-each c = λ a is distance e. absurd (omega (arith, ap length e, length_of_fields a is.digest, c.if-bytes-lt-ANSWER_FIELDS.true))

pub returns-in_default-clause-each : goal.returns-in_default-clause-each
returns-in_default-clause-each c = λ a is distance e.
    let parts = fields_parts c.args.bytes.now c.split_at.result.1.now c.split_at.result.0.now c.split_at-2.result.0.now c.split_at-2.result.1.now c.split_at.ensures.front c.split_at.ensures.back c.split_at-2.ensures.front c.split_at-2.ensures.back a is.digest e in
    let got = c.from_bytes.ensures.each a.published is.published parts.0 in
    let none = c.in_default.is in
    cc

pub returns-in-Err-clause-each : goal.returns-in-Err-clause-each
returns-in-Err-clause-each c = λ a is distance e.
    let parts = fields_parts c.args.bytes.now c.split_at.result.1.now c.split_at.result.0.now c.split_at-2.result.0.now c.split_at-2.result.1.now c.split_at.ensures.front c.split_at.ensures.back c.split_at-2.ensures.front c.split_at-2.ensures.back a is.digest e in
    c.in-Err.ensures.each a.definitions is.texts is.few parts.2

pub returns-in-Ok-clause-bytes : goal.returns-in-Ok-clause-bytes
returns-in-Ok-clause-bytes c =
    fields_whole c.args.bytes.now c.split_at.result.1.now c.split_at.result.0.now c.split_at-2.result.0.now c.split_at-2.result.1.now c.split_at.ensures.front c.split_at.ensures.back c.split_at-2.ensures.front c.split_at-2.ensures.back
    (record { distance = c.args.distance; published = c.in-Some.published; digest = c.array.result; definitions = c.in-Ok.definitions.items }) c.in-Some.ensures.value c.array.ensures c.in-Ok.ensures.bytes
    ∙ ap answer_fields (sym c.new.ensures)

pub returns-in-Ok-clause-each : goal.returns-in-Ok-clause-each
returns-in-Ok-clause-each c = λ a is distance e.
    let parts = fields_parts c.args.bytes.now c.split_at.result.1.now c.split_at.result.0.now c.split_at-2.result.0.now c.split_at-2.result.1.now c.split_at.ensures.front c.split_at.ensures.back c.split_at-2.ensures.front c.split_at-2.ensures.back a is.digest e in
    let got = c.from_bytes.ensures.each a.published is.published parts.0 in
    let was = c.in-Some.is in
    c.new.ensures ∙ same_answer _ a (sym distance) (cc) (c.array.ensures ∙ parts.1) (c.in-Ok.ensures.each a.definitions is.texts is.few parts.2)
