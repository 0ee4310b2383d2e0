use Rattle.std.proofs.Common.{length}
use Rattle.wf_rejoin.proofs.joining_reader.+read_stages.Given as goal

abbrev pub decreases-read_stages : goal.decreases-read_stages
decreases-read_stages l = length l.stages.now
