use Rattle.wf_actor.proofs.Lives.{reported_more, reported_nothing}
use Rattle.wf_actor.proofs.note.report.Goals as goal

pub returns-in-Ok : goal.returns-in-Ok
returns-in-Ok c = reported_more c.args.emitted.now.items c.and.result.items c.args.answer.now c.in-Ok.messages c.in-Ok.is c.and.ensures

pub returns-in-Err : goal.returns-in-Err
returns-in-Err c = reported_nothing c.args.emitted.now.items c.args.answer.now _ c.in-Err.is
