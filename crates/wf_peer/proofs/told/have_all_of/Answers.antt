-- Each node was compared.
use Rattle.std.proofs.Common.{◌≤◌, arith, length, refl}
use Rattle.wf_peer.proofs.HeardLater.{past_of_all}
use Rattle.wf_peer.proofs.told.have_all_of.Goals as goal

pub returns : goal.returns
returns c =
    let count : length c.args.earlier.now ≤ c.loop-index.index = grind arith in
    (λ _. past_of_all c.args.earlier.now c.args.later.now c.loop-index.index count c.loop-index.invariant, λ _. refl)
