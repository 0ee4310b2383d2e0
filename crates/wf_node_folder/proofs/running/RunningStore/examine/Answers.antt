-- Whether the folder is the one that is locked was looked at.
use Rattle.wf_node_folder.proofs.Stays.{stays_comparing}
use Rattle.wf_node_folder.proofs.running.RunningStore.examine.Goals as goal
use Rattle.wf_node_folder.specs.Folder.{calls_in}

pub invariant_of-self : goal.invariant_of-self
invariant_of-self g c = record {
  stays = stays_comparing (calls_in g.S.Store.calls c.args.self.now.began.items) (g.S.Store.calls c.args.self.now.store) (g.S.Store.calls c.is_same.new.self) c.args.self.now.stays
      c.is_same.result c.is_same.ensures.ok c.is_same.ensures.err;
}
