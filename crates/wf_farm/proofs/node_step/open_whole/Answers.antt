-- The tape without the failure is the same but for that.
use Rattle.wf_farm.proofs.Tried.{no_fuse, not_opened_laid, opened_laid}
use Rattle.wf_farm.proofs.node_step.open_whole.Goals as goal

pub returns-in-Ok-clause-restarted : goal.returns-in-Ok-clause-restarted
returns-in-Ok-clause-restarted c = opened_laid c.args.tape c.set_fuse.new.self c.in-Ok.node c.set_fuse.ensures (c.in-Ok.ensures.stored tt) c.in-Ok.ensures.volatile

pub returns-in-Err-clause-err : goal.returns-in-Err-clause-err
returns-in-Err-clause-err c = not_opened_laid c.args.tape c.set_fuse.new.self c.in-Err.tape c.set_fuse.ensures (c.in-Err.ensures.images_err tt)

pub returns-in-Ok-clause-sturdy : goal.returns-in-Ok-clause-sturdy
returns-in-Ok-clause-sturdy c = λ never. c.in-Ok.ensures.sturdy (no_fuse c.args.tape c.set_fuse.new.self c.set_fuse.ensures)

pub returns-in-Err-clause-err_sturdy : goal.returns-in-Err-clause-err_sturdy
returns-in-Err-clause-err_sturdy c = λ never. c.in-Err.ensures.sturdy_err (no_fuse c.args.tape c.set_fuse.new.self c.set_fuse.ensures)
