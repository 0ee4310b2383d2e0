-- The file that was read was put there, or was to be.
use Rattle.wf_node_folder.proofs.FarmPut.{put_still, put_there}
use Rattle.wf_node_folder.proofs.held.HeldFolder.find_own.Goals as goal

pub returns-clause-put : goal.returns-clause-put
returns-clause-put g c =
    let held = c.args.self.now in
    let calls = g.S.Store.calls c.read.new.self.store in
    put_there held.file held.attempted calls _ c.own_of.result (put_still held.file held.attempted (g.S.Store.calls held.running.store) calls c.read.ensures.farm held.put) c.own_of.ensures.found
