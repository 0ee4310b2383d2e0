use Rattle.std.proofs.Common.{◌^◌, length, arith}
use Rattle.wf_text.proofs.NumberLemmas.{spelled_onto-more, spelled_room}
use Rattle.wf_text.proofs.number.few_spelled_onto.Goals as goal

pub overflow_mul-spelled : goal.overflow_mul-spelled
overflow_mul-spelled c =
    let room = spelled_room c.loop-byte.spelled c.args.value 0 c.loop-byte.byte-index (length c.args.digits.now) (2 ^ 64) c.loop-byte.invariant.bound (omega arith) c.loop-byte-test.true c.requires in
    omega arith

pub overflow_add-spelled : goal.overflow_add-spelled
overflow_add-spelled c =
    let room = spelled_room c.loop-byte.spelled c.args.value c.from.result c.loop-byte.byte-index (length c.args.digits.now) (2 ^ 64) c.loop-byte.invariant.bound (omega arith) c.loop-byte-test.true c.requires in
    omega arith

pub loop-byte-preserved : goal.loop-byte-preserved
loop-byte-preserved c =
    let room = spelled_room c.loop-byte.spelled c.args.value c.from.result c.loop-byte.byte-index (length c.args.digits.now) (2 ^ 64) c.loop-byte.invariant.bound (omega arith) c.loop-byte-test.true c.requires in
    let more = spelled_onto-more c.args.value c.args.digits.now c.loop-byte.byte-index c.loop-byte-test.true in
    record { value = cc; bound = room.0 }
