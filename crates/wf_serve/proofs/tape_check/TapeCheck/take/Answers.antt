-- What was a cause is one still.
use Rattle.wf_serve.proofs.Taken.{taken_still}
use Rattle.wf_serve.proofs.tape_check.TapeCheck.take.Goals as goal

pub returns-in-Some : goal.returns-in-Some
returns-in-Some c = λ tapes taken. taken_still tapes c.args.number c.args.bytes.items c.args.self.longest c.args.self.cause c.in-Some.cause c.in-Some.is taken
