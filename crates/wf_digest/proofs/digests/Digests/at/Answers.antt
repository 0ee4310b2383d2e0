-- The digest at a sequence stands there.
use Rattle.std.proofs.Common.{◌≡◌, ◌∙◌, ℕ, List, ap, arith}
use Rattle.std.specs.Prelude.{slice_get}
use Rattle.std.proofs.lemmas.Option.{slice_get_past}
use Rattle.std.proofs.lemmas.Grind.{common_steps}
use Rattle.wf_digest.specs.Digest.{digests_after, first_digest}
use Rattle.wf_digest.proofs.Chain.{count_digests, digest_there}
use Rattle.wf_digest.proofs.digests.Digests.at.Goals as goal

pub returns-clause-of_history : goal.returns-clause-of_history
returns-clause-of_history c = λ history are within.
    let value : c.get.result ≡ slice_get c.args.self.now c.args.seq = grind (arith, common_steps) in
    value ∙ ap (λ (l : List (List ℕ)). slice_get l c.args.seq) are ∙ digest_there first_digest history c.args.seq within

pub returns-clause-above : goal.returns-clause-above
returns-clause-above c = λ history are beyond.
    let value : c.get.result ≡ slice_get c.args.self.now c.args.seq = grind (arith, common_steps) in
    value ∙ ap (λ (l : List (List ℕ)). slice_get l c.args.seq) are ∙ slice_get_past (digests_after first_digest history) c.args.seq (omega (arith, count_digests first_digest history, beyond))
