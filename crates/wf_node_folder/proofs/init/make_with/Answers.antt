-- The folder was made, or not.
use Rattle.wf_node_folder.proofs.Making.{made_so}
use Rattle.wf_node_folder.proofs.init.make_with.Goals as goal

pub returns-in-Ok : goal.returns-in-Ok
returns-in-Ok g c =
    made_so c.args.line.now c.args.tape.items (g.S.Store.calls c.args.store.now) (g.S.Store.calls c.make_empty.new.store) (g.S.Store.calls c.write_files.new.store) c.write_files.result
    c.requires.tape c.requires.alone c.make_empty.ensures.reads c.in-Ok.ensures.empty c.write_files.ensures.filled c.write_files.ensures.left c.write_files.ensures.fault
