use Rattle.wf_node_folder.proofs.Clearing.{not_heard}
use Rattle.wf_node_folder.proofs.clear.write_cleared.Goals as goal

pub returns-in-Err-clause-left : goal.returns-in-Err-clause-left
returns-in-Err-clause-left g c = not_heard c.args.file.now c.new.result (g.S.Store.calls c.args.store.now) (g.S.Store.calls c.write_heard.new.store) c.new.ensures c.in-Err.ensures.unwritten
