-- What is known of the node is raised to how far it goes.
use Rattle.std.proofs.Common.{◌∙◌, List, ap, length, subst}
use Rattle.wf_def.specs.Definition.{Definition}
use Rattle.wf_digest.specs.Digest.{AreDigestsOf, digest_at}
use Rattle.wf_folder.specs.NodeAdmission.{IsTapeAdmitted}
use Rattle.wf_node.specs.Node.{stored_of}
use Rattle.wf_node_folder.proofs.Reached.{found_digest, known_of}
use Rattle.wf_node_folder.proofs.held_state.examine_node.Goals as goal

pub returns-in-Ok-admit_tape-clause-known : goal.returns-in-Ok-admit_tape-clause-known
returns-in-Ok-admit_tape-clause-known g c =
    let stored = stored_of c.args.node.now in
    let are = subst (λ (history : List Definition). AreDigestsOf history c.in-Ok.digests) c.history.ensures c.in-Ok.ensures in
    let admitted : IsTapeAdmitted c.args.known.now c.reach-reach.result c.at-digest.result = c.in-Ok-admit_tape.ensures.admitted.0 search in
    known_of c.args.known.now stored c.reach-reach.result c.last_digest-last.result c.at-digest.result c.reach-reach.ensures
    (c.last_digest-last.ensures ∙ ap (λ (history : List Definition). digest_at history (length history)) c.history-2.ensures)
    (found_digest stored.history c.args.known.now.reach.published c.at-digest.result (c.at-digest.ensures.of_history stored.history are) (c.at-digest.ensures.above stored.history are))
    admitted
