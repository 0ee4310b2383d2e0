-- A tape that was rejected reads as it did.
use Rattle.wf_farm.proofs.Tried.{opened_after, stays_after, sturdy_after, sturdy_after_err}
use Rattle.wf_farm.proofs.node_step.NodeHost+MemoryTape.reopen_node.Goals as goal

pub returns-in-Err-clause-restarted : goal.returns-in-Err-clause-restarted
returns-in-Err-clause-restarted c = opened_after c.args.self c.in-Stopped.tape c.in-Err.tape c.in-Stopped.is (c.in-Err.ensures.images_err tt) c.open_again.result c.open_again.ensures.restarted

pub returns-in-Err-clause-err : goal.returns-in-Err-clause-err
returns-in-Err-clause-err c = stays_after c.args.self c.in-Stopped.tape c.in-Err.tape c.in-Stopped.is (c.in-Err.ensures.images_err tt) c.open_again.result c.open_again.ensures.err

pub returns-in-Err-clause-sturdy : goal.returns-in-Err-clause-sturdy
returns-in-Err-clause-sturdy c = sturdy_after c.args.self c.in-Stopped.tape c.in-Err.tape c.in-Stopped.is c.in-Err.ensures.sturdy_err c.open_again.result c.open_again.ensures.sturdy

pub returns-in-Err-clause-err_sturdy : goal.returns-in-Err-clause-err_sturdy
returns-in-Err-clause-err_sturdy c = sturdy_after_err c.args.self c.in-Stopped.tape c.in-Err.tape c.in-Stopped.is c.in-Err.ensures.sturdy_err c.open_again.result c.open_again.ensures.err_sturdy
