use Rattle.std.proofs.Common.{refl}
use Rattle.wf_voter.proofs.Continuation.{post_finished}
use Rattle.wf_voter.proofs.acts.finish_post.Goals as goal

pub returns : goal.returns
returns g c = post_finished g.T.Tape _ _ _ refl refl refl refl c.finish_post.ensures
