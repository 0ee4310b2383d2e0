-- Bytes that begin with a digest's digits have 64 in front that are these.
use Rattle.std.proofs.Common.{◌∙◌, ◌≤◌, length, arith}
use Rattle.wf_folder.proofs.Numbers.{digest_fits, digest_front}
use Rattle.wf_folder.proofs.digest.split_digest.Goals as goal

pub returns-then-bytes-lt-DIGITS-clause-none : goal.returns-then-bytes-lt-DIGITS-clause-none
returns-then-bytes-lt-DIGITS-clause-none c = λ mark rest bytes size e.
    let fits : 64 ≤ length c.args.bytes.now = digest_fits mark c.args.bytes.now rest size e in omega arith

pub returns-in-None-clause-none : goal.returns-in-None-clause-none
returns-in-None-clause-none c = λ mark rest bytes size e.
    c.in-None.ensures.none mark bytes size (c.split_at.ensures.front ∙ digest_front mark c.args.bytes.now rest size e)
