-- The bits of the first n nodes are counted.
use Rattle.std.proofs.Common.{◌≡◌, bit_and, count_ones, subst, arith}
use Rattle.wf_ballot.specs.Majority.{count_nodes}
use Rattle.wf_proposer.specs.Responders.{among}
use Rattle.wf_proposer.proofs.ResponderSets.{bits_are_counted}
use Rattle.wf_proposer.proofs.responders.Responders.count.Goals as goal

pub returns : goal.returns
returns c =
    let mask = c.self.inside.mask in
    subst (λ set. count_ones (bit_and mask c.first_nodes.result) ≡ count_nodes c.args.n (among set)) c.self.view_is
    (bits_are_counted mask c.args.n c.first_nodes.result (c.first_nodes.ensures mask (omega arith)))
