-- At first the digests are those of the front of the history that they were extended to.
use Rattle.std.proofs.Common.{◌≡◌, length, vec_len, rules}
use Rattle.wf_digest.proofs.Chain.{of_front}
use Rattle.wf_digest.proofs.digests.extend_to.Goals as goal

pub loop-digests-init : goal.loop-digests-init
loop-digests-init c = record {
  some = search rules;
  room = search rules;
  value = λ k are.
      let counted : length c.args.digests.now.items ≡ vec_len c.args.digests.now = search rules in
      of_front c.args.history.now.definitions k (vec_len c.args.digests.now) c.args.digests.now.items counted are;
}
