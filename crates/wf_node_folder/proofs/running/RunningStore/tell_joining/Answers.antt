-- The file wasn't put in the place of the one that was read.
use Rattle.wf_node_folder.proofs.Causes.{untold_call}
use Rattle.wf_node_folder.proofs.running.RunningStore.tell_joining.Goals as goal

pub returns-in-Ok-clause-err : goal.returns-in-Ok-clause-err
returns-in-Ok-clause-err g c =
    untold_call (g.S.Store.calls c.args.self.now.store) (g.S.Store.calls c.find_joining.new.self.store) (g.S.Store.calls c.replace.new.self.store) c.find_joining.ensures.after c.replace.result
    c.replace.ensures.cause
