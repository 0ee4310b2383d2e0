use Rattle.std.proofs.Common.{◌∙◌, ℕ, ap, inr, subst, sym}
use Rattle.std.specs.Option.{option_copied}
use Rattle.wf_codec.specs.Message.{view_vote}
use Rattle.wf_node.specs.Node.{stored_of}
use Rattle.wf_voter.specs.Reach.{IsVotedOrNone}
use Rattle.wf_voter.proofs.reach.with_voted_at.Goals as goal

pub returns-in-Some-clause-is_voted : goal.returns-in-Some-clause-is_voted
returns-in-Some-clause-is_voted g c = λ old.
    subst (λ (s : ℕ). IsVotedOrNone (stored_of c.args.node.now) s) (sym c.number.ensures.value) (inr (_, sym (sym (ap view_vote (ap option_copied c.in-Some.is)) ∙ c.vote_at.ensures)))
