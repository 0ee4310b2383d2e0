use Rattle.wf_power_cuts.proofs.DiskLemmas.{none_read, read_back}
use Rattle.wf_power_cuts.proofs.disks.Disks.read.Goals as goal

pub returns-in_default : goal.returns-in_default
returns-in_default c = none_read c.args.self.now c.take.new.self c.in_default.ensures.none

pub returns-in-Ok : goal.returns-in-Ok
returns-in-Ok c =
    read_back c.args.self.now c.take.new.self c.put.new.self c.args.file c.in-Some.disk c.read_one-read.new.disk c.in-Some.ensures.has c.in-Some.ensures.left c.put.ensures c.in-Some.ensures.disk c.read_one-read.ensures

pub returns-in-Err-Device : goal.returns-in-Err-Device
returns-in-Err-Device c =
    read_back c.args.self.now c.take.new.self c.put.new.self c.args.file c.in-Some.disk c.read_one-read.new.disk c.in-Some.ensures.has c.in-Some.ensures.left c.put.ensures c.in-Some.ensures.disk c.read_one-read.ensures

pub returns-in-Err-Memory : goal.returns-in-Err-Memory
returns-in-Err-Memory c =
    read_back c.args.self.now c.take.new.self c.put.new.self c.args.file c.in-Some.disk c.read_one-read.new.disk c.in-Some.ensures.has c.in-Some.ensures.left c.put.ensures c.in-Some.ensures.disk c.read_one-read.ensures
