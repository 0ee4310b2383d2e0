-- Whether there is a tape was looked at.
use Rattle.wf_node_folder.proofs.Stays.{stays_seeing}
use Rattle.wf_node_folder.proofs.running.RunningStore.has_tape.Goals as goal
use Rattle.wf_node_folder.specs.Folder.{calls_in}
use Rattle.wf_store.specs.declared.file_name.FileName.TheVariants.{NodeTape}

pub invariant_of-self : goal.invariant_of-self
invariant_of-self g c = record {
  stays = stays_seeing (calls_in g.S.Store.calls c.args.self.now.began.items) (g.S.Store.calls c.args.self.now.store) (g.S.Store.calls c.presence.new.self) c.args.self.now.stays
      (NodeTape c.args.node) c.presence.result c.presence.ensures.ok c.presence.ensures.err;
}
