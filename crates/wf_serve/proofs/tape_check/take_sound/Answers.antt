-- One more is taken, or it is why they aren't sound.
use Rattle.wf_serve.proofs.Taken.{rejected_taken, taken}
use Rattle.wf_serve.proofs.tape_check.take_sound.Goals as goal

pub returns-in-Ok : goal.returns-in-Ok
returns-in-Ok c = λ tapes were. taken tapes c.args.number c.args.bytes.items c.args.longest c.in-Ok.longer were c.in-Ok.ensures.next c.in-Ok.ensures.kept

pub returns-in-Err : goal.returns-in-Err
returns-in-Err c = λ tapes were. rejected_taken c.rejected.result tapes c.args.number c.args.bytes.items c.args.longest c.in-Err.cause c.rejected.ensures were c.in-Err.ensures.cause
