-- No vote's bytes are all zeros.
use Rattle.std.proofs.Common.{◌≡◌, ◌∙◌, [], ◌∷◌, sym, arith}
use Rattle.std.proofs.lemmas.Grind.{common_steps}
use Rattle.wf_peer.proofs.Decoded.{only_no_vote}
use Rattle.wf_peer.proofs.decoder.vote_of.Goals as goal

pub returns-in-0-clause-each : goal.returns-in-0-clause-each
returns-in-0-clause-each c = λ v is e.
    let zeros : c.args.bytes.now ≡ 0 ∷ 0 ∷ 0 ∷ 0 ∷ 0 ∷ 0 ∷ 0 ∷ [] = grind (arith, common_steps) in
    only_no_vote v is (sym zeros ∙ e)
