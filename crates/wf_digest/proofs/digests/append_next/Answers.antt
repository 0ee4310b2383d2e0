-- The definition of the next sequence gives the next digest.
use Rattle.std.proofs.Common.{◌≡◌, ◌≤◌, length, vec_len, rules}
use Rattle.std.specs.Prelude.{Some}
use Rattle.wf_model.specs.DurableState.{definition_at}
use Rattle.wf_digest.proofs.Chain.{grown}
use Rattle.wf_digest.proofs.digests.append_next.Goals as goal

pub returns-clause-value : goal.returns-clause-value
returns-clause-value c = λ are.
    let some : 1 ≤ vec_len c.args.digests.now = search rules in
    let within : vec_len c.args.digests.now ≤ length c.args.history.now.definitions = search rules in
    let at : Some c.in-Some.canon.now ≡ definition_at c.args.history.now.definitions (vec_len c.args.digests.now) = search rules in
    grown c.args.history.now.definitions (vec_len c.args.digests.now) c.args.digests.now.items c.push_next.new.digests.items c.in-Some.canon.now some within at c.push_next.ensures.items are
