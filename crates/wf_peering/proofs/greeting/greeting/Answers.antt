-- It says how far the node is, and tells the votes that it has.
use Rattle.std.proofs.Common.{◌≡◌, ◌⊎◌, ℕ, subst, sym}
use Rattle.std.proofs.lemmas.Option.{IfSome_then}
use Rattle.wf_peering.proofs.greeting.greeting.Goals as goal
use Rattle.wf_peering.specs.Greeting.{IsGreetedWith}
use Rattle.wf_voter.specs.Reach.{IsHighestVoted}
use Rattle.wf_node.specs.Node.{Node, stored_of}
use Rattle.wf_peer.specs.declared.progress.Progress.{Progress}
use Rattle.wf_rejoin.specs.Replacements.{known_count}

pub returns-clause-progress : goal.returns-clause-progress
returns-clause-progress g c =
    IfSome_then c.greeting.result c.greeting.ensures.progress
    (λ said same. subst (λ (p : Progress). IsGreetedWith c.args.peers.now.plan.start c.args.voter.now.process.actor.node p) (sym same) c.progress-now.ensures)

pub returns-clause-voted : goal.returns-clause-voted
returns-clause-voted g c =
    let none = known_count c.args.voter.now.membership.replacements ≡ 0 in
    let voted = subst (λ (n : Node g.row.T.Denot). none ⊎ IsHighestVoted (stored_of n) c.in_ok-told_votes.field-0) c.node-2.ensures c.in_ok-told_votes.ensures in
    IfSome_then c.greeting.result c.greeting.ensures.voted
    (λ said same. subst (λ (s : ℕ). none ⊎ IsHighestVoted (stored_of c.args.voter.now.process.actor.node) s) (sym same) voted)
