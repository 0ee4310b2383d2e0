-- The folder isn't told a step.
use Rattle.wf_node_folder.proofs.Causes.{untold_later}
use Rattle.wf_node_folder.proofs.held.HeldFolderNodeFolderTape.keep_joining.Goals as goal

pub returns-clause-err : goal.returns-clause-err
returns-clause-err g c =
    untold_later (g.S.Store.calls c.args.self.now.running.store) (g.S.Store.calls c.examine.new.self.store) (g.S.Store.calls c.tell_joining.new.self.store) c.examine.ensures.after
    c.tell_joining.result c.tell_joining.ensures.err
