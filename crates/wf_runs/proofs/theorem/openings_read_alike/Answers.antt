use Rattle.wf_runs.proofs.CrashImages.{opening_reads_alike, shortening_reads_alike}
use Rattle.wf_runs.proofs.theorem.openings_read_alike.Goals as goal

pub returns-clause-open : goal.returns-clause-open
returns-clause-open g c = opening_reads_alike g.T.Tape

pub returns-clause-shorten : goal.returns-clause-shorten
returns-clause-shorten g c = shortening_reads_alike c.records_are_read_one_way.ensures.one g.T.Tape
