-- The tape is opened between two looks at its length.
use Rattle.wf_serve.proofs.Started.{tape_failed, tape_kept, tape_opened, tape_unopened}
use Rattle.wf_serve.proofs.node_start.add_node.Goals as goal

pub returns-in-Err-clause-stopped : goal.returns-in-Err-clause-stopped
returns-in-Err-clause-stopped g c = tape_unopened c.args.number _ _ _ _ _ c.unopened.ensures c.length-before.ensures.reads c.in-Err.ensures.err c.in-Err.ensures.cause

pub returns-in-Ok-put-clause-tape : goal.returns-in-Ok-put-clause-tape
returns-in-Ok-put-clause-tape g c = tape_opened c.args.number _ _ _ _ c.length-before.ensures.reads c.in-Ok.ensures.ok c.length-after.ensures.reads

pub returns-in-Err-put-clause-stopped : goal.returns-in-Err-put-clause-stopped
returns-in-Err-put-clause-stopped g c = tape_kept c.args.number _ _ _ _ c.length-before.ensures.reads c.in-Ok.ensures.ok c.length-after.ensures.reads

pub returns-in-Err-open_shortened-clause-stopped : goal.returns-in-Err-open_shortened-clause-stopped
returns-in-Err-open_shortened-clause-stopped g c = tape_failed c.args.number _ _ _ c.length-before.ensures.reads c.in-Ok.ensures.ok
