use Rattle.wf_power_cuts.proofs.OneDisk.{left_alone_on}
use Rattle.wf_power_cuts.proofs.one_disk.replace_one.Goals as goal

pub returns-clause-alone : goal.returns-clause-alone
returns-clause-alone c = left_alone_on c.replace_on.result c.replace_on.new.disk.folder c.args.bytes.now (c.replace_on.ensures.ok tt)
