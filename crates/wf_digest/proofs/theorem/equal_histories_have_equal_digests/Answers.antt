-- A digest is a function of the history up to its sequence.
use Rattle.std.proofs.Common.{ap}
use Rattle.wf_digest.specs.Digest.{digest_after, first_digest}
use Rattle.wf_digest.proofs.theorem.equal_histories_have_equal_digests.Goals as goal

pub returns : goal.returns
returns c = λ a b seq same. ap (digest_after first_digest) same
