-- Bytes that begin with a mark's digits have 32 in front that are these.
use Rattle.std.proofs.Common.{◌∙◌, ◌≤◌, length, arith}
use Rattle.wf_folder.proofs.Numbers.{mark_fits, mark_front}
use Rattle.wf_folder.proofs.reader.split_mark.Goals as goal

pub returns-then-bytes-lt-MARK_DIGITS-clause-none : goal.returns-then-bytes-lt-MARK_DIGITS-clause-none
returns-then-bytes-lt-MARK_DIGITS-clause-none c = λ mark rest bytes size e.
    let fits : 32 ≤ length c.args.bytes.now = mark_fits mark c.args.bytes.now rest size e in omega arith

pub returns-in-None-clause-none : goal.returns-in-None-clause-none
returns-in-None-clause-none c = λ mark rest bytes size e.
    c.in-None.ensures.none mark bytes size (c.split_at.ensures.front ∙ mark_front mark c.args.bytes.now rest size e)
