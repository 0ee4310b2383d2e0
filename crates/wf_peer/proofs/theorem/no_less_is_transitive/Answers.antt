-- Each part of a progress is no less in turn.
use Rattle.std.proofs.Common.{◌∙◌, arith}
use Rattle.std.specs.Prelude.{Option, Some, None}
use Rattle.wf_folder.specs.Reach.{IsNoLowerVote}
use Rattle.wf_folder.specs.declared.reach.HighestVote.{HighestVote}
use Rattle.wf_folder.proofs.Raised.{not_vote_below-transitive}
use Rattle.wf_peer.proofs.HeardLater.{no_lower_in_turn}
use Rattle.wf_peer.specs.Reported.{NoLessIsTransitive}
use Rattle.wf_peer.proofs.theorem.no_less_is_transitive.Goals as goal

no_lower_vote_in_turn : (a b c : Option HighestVote) → IsNoLowerVote a b → IsNoLowerVote b c → IsNoLowerVote a c
no_lower_vote_in_turn None b c first second = tt
no_lower_vote_in_turn (Some x) None c first second = absurd first
no_lower_vote_in_turn (Some x) (Some y) None first second = absurd second
no_lower_vote_in_turn (Some x) (Some y) (Some z) first second = not_vote_below-transitive x y z first second

theorem : NoLessIsTransitive
theorem a b c first second = record {
  mark = second.mark ∙ first.mark;
  starts = omega (arith, first.starts, second.starts);
  life = λ same. second.life (omega (arith, same, first.starts, second.starts)) ∙ first.life (omega (arith, same, first.starts, second.starts));
  round = omega (arith, first.round, second.round);
  promise = no_lower_in_turn a.promise b.promise c.promise first.promise second.promise;
  vote = no_lower_vote_in_turn a.vote b.vote c.vote first.vote second.vote;
  published = omega (arith, first.published, second.published);
}

pub returns : goal.returns
returns c = theorem
