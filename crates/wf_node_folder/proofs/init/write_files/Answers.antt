-- The tape wasn't written, or it is there alone.
use Rattle.wf_node_folder.proofs.Making.{tape_alone, tape_failed}
use Rattle.wf_node_folder.proofs.init.write_files.Goals as goal

pub returns-in-Err-replace-clause-left : goal.returns-in-Err-replace-clause-left
returns-in-Err-replace-clause-left g c =
    tape_failed c.args.line.now c.args.tape.items (g.S.Store.calls c.args.store.now) (g.S.Store.calls c.draw.new.self) c.in-Ok.mark c.in-Ok.ensures.ok (g.S.Store.calls c.replace.new.self) c.in-Err-replace.ensures.err

pub returns-in-Err-write_joins-clause-left : goal.returns-in-Err-write_joins-clause-left
returns-in-Err-write_joins-clause-left g c =
    tape_alone c.args.line.now c.args.tape.items (g.S.Store.calls c.args.store.now) (g.S.Store.calls c.draw.new.self) c.in-Ok.mark c.in-Ok.ensures.ok (g.S.Store.calls c.replace.new.self) (g.S.Store.calls c.write_joins.new.store)
    c.in_default.ensures.ok c.in-Err-write_joins.ensures.unwritten
