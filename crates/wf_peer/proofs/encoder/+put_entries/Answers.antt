-- The first node's replacement and those of the others are those of all.
use Rattle.std.proofs.Common.{◌-◌, length, refl}
use Rattle.wf_peer.proofs.ToldReplacements.{put_one_more}
use Rattle.wf_peer.proofs.encoder.+put_entries.Goals as goal

pub returns-in-Some-clause-items : goal.returns-in-Some-clause-items
returns-in-Some-clause-items t c =
    put_one_more c.args.out.now.items c.put_latest.new.out.items c.put_entries.new.out.items c.args.nodes.now c.in-Some.others.now c.in-Some.latest.now (64 - length c.args.nodes.now) c.in-Some.ensures.cases.0 c.requires.nodes refl
    c.put_latest.ensures.items c.put_entries.ensures.items
