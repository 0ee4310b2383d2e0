-- By cases: whether the vote is waited for.
use Rattle.std.proofs.Common.{sym, ◌∙◌}
use Rattle.wf_proposer.specs.VolatileState.{leading_of, led_votes}
use Rattle.wf_proposer.proofs.Counted.{vote_ignored, vote_memory, vote_transition}
use Rattle.wf_proposer.proofs.proposal.Proposal.on_accepted.Goals as goal

pub returns-then-not-is_new_response-clause-transition : goal.returns-then-not-is_new_response-clause-transition
returns-then-not-is_new_response-clause-transition c =
    rw c.quiet.ensures (vote_ignored c.args.leadership.now c.args.self.now c.args.n c.args.from c.args.slot c.args.ballot
    (sym (c.is_new_response.ensures.vote (led_votes (leading_of c.args.leadership.now) c.args.self.now.slot)) ∙ c.if-not-is_new_response.true))

pub returns-clause-transition : goal.returns-clause-transition
returns-clause-transition c =
    vote_transition c.args.leadership.now c.args.self.now c.args.n c.args.from c.args.slot c.args.ballot c.after_vote.result c.with.result _
    (sym (c.is_new_response.ensures.vote (led_votes (leading_of c.args.leadership.now) c.args.self.now.slot)) ∙ c.if-not-is_new_response.false) c.with.ensures c.definition_to_accept.ensures c.after_vote.ensures.next

pub returns-clause-memory : goal.returns-clause-memory
returns-clause-memory c =
    vote_memory c.args.leadership.now c.args.self.now c.args.n c.args.from c.args.slot c.args.ballot c.after_vote.result c.with.result
    (sym (c.is_new_response.ensures.vote (led_votes (leading_of c.args.leadership.now) c.args.self.now.slot)) ∙ c.if-not-is_new_response.false) c.with.ensures c.after_vote.ensures.memory
