use Rattle.std.proofs.Common.{length}
use Rattle.wf_codec.proofs.best.+put_all.Given as goal

abbrev pub decreases-put_all : goal.decreases-put_all
decreases-put_all l = length l.votes.now.items
