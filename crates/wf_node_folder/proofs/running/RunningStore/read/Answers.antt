-- A file was read.
use Rattle.wf_node_folder.proofs.Stays.{stays_reading}
use Rattle.wf_node_folder.proofs.running.RunningStore.read.Goals as goal
use Rattle.wf_node_folder.specs.Folder.{calls_in}

pub invariant_of-self : goal.invariant_of-self
invariant_of-self g c = record {
  stays = stays_reading (calls_in g.S.Store.calls c.args.self.now.began.items) (g.S.Store.calls c.args.self.now.store) (g.S.Store.calls c.read.new.self) c.args.self.now.stays
      c.args.file c.read.result c.read.ensures.ok c.read.ensures.err;
}
