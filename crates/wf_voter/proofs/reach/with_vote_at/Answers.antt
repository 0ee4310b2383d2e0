use Rattle.std.proofs.Common.{◌∙◌, ap, sym}
use Rattle.std.specs.Option.{option_copied}
use Rattle.wf_codec.specs.Message.{view_vote}
use Rattle.wf_folder.proofs.Raised.{no_lower_vote_self}
use Rattle.wf_voter.proofs.Reached.{is_vote_raised, kept_raised, new_raised}
use Rattle.wf_node.specs.Node.{stored_of}
use Rattle.wf_voter.proofs.reach.with_vote_at.Goals as goal

pub returns-in-Some-clause-kept : goal.returns-in-Some-clause-kept
returns-in-Some-clause-kept g c = kept_raised _ _ _ c.raise_vote.ensures

pub returns-in-Some-clause-no_lower : goal.returns-in-Some-clause-no_lower
returns-in-Some-clause-no_lower g c = λ vote stored. new_raised _ _ _ _ _ vote c.raise_vote.ensures (sym (ap view_vote (ap option_copied c.in-Some.is)) ∙ (c.vote_at.ensures ∙ stored))

pub returns-in-Some-clause-is_vote : goal.returns-in-Some-clause-is_vote
returns-in-Some-clause-is_vote g c = λ old. is_vote_raised (stored_of c.args.node.now) _ _ _ _ _ c.raise_vote.ensures (sym (ap view_vote (ap option_copied c.in-Some.is)) ∙ c.vote_at.ensures) old

pub returns-in-None-clause-kept : goal.returns-in-None-clause-kept
returns-in-None-clause-kept g c = no_lower_vote_self _
