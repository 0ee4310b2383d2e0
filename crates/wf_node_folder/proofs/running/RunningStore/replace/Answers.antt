-- Another folder may have come to the path.
use Rattle.wf_node_folder.proofs.Causes.{caused_then}
use Rattle.wf_node_folder.proofs.running.RunningStore.replace.Goals as goal

pub returns-clause-cause : goal.returns-clause-cause
returns-clause-cause g c =
    caused_then (g.S.Store.calls c.args.self.now.store) (g.S.Store.calls c.replace.new.self) (g.S.Store.calls c.examine.new.self.store) c.replace.ensures.after c.examine.result c.examine.ensures.err
