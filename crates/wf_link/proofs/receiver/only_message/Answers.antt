-- Of one message one arrived, and nothing is kept behind it.
use Rattle.std.proofs.Common.{arith}
use Rattle.std.proofs.lemmas.Result.{on_err_weaker}
use Rattle.wf_link.proofs.Causes.{one_received}
use Rattle.wf_link.proofs.receiver.only_message.Goals as goal

pub returns-then-rest-ne0-clause-other : goal.returns-then-rest-ne0-clause-other
returns-then-rest-ne0-clause-other c = λ bytes had one.
    let all = one_received bytes c.args.arrival had one in
    grind (arith, all.1, c.pending-rest.ensures.value, c.if-rest-ne0.true)

pub returns-clause-other : goal.returns-clause-other
returns-clause-other c = λ bytes had.
    on_err_weaker c.only.result (λ other one. other (one_received bytes c.args.arrival had one).0) c.only.ensures.other
