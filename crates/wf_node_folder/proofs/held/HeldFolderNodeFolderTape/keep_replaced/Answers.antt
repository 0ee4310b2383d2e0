-- The file wasn't put in the place of the one that was there.
use Rattle.wf_node_folder.proofs.Causes.{caused_then}
use Rattle.wf_node_folder.proofs.held.HeldFolderNodeFolderTape.keep_replaced.Goals as goal

pub returns-in-Ok-clause-cause : goal.returns-in-Ok-clause-cause
returns-in-Ok-clause-cause g c =
    caused_then (g.S.Store.calls c.args.self.now.running.store) (g.S.Store.calls c.examine.new.self.store) (g.S.Store.calls c.replace.new.self.store) c.examine.ensures.after c.replace.result
    c.replace.ensures.cause
