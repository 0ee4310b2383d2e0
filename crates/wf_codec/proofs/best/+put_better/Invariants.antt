use Rattle.std.proofs.Common.{length}
use Rattle.wf_codec.proofs.best.+put_better.Given as goal

abbrev pub decreases-put_better : goal.decreases-put_better
decreases-put_better l = length l.best.now.items
