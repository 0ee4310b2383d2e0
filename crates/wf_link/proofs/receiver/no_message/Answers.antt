-- Where a message arrived, the bytes don't begin with none.
use Rattle.std.proofs.Common.{◌≡◌, length, arith}
use Rattle.wf_link.proofs.Causes.{none_received}
use Rattle.wf_link.proofs.receiver.no_message.Goals as goal

pub returns-then-count-ne0-clause-other : goal.returns-then-count-ne0-clause-other
returns-then-count-ne0-clause-other c = λ bytes had none.
    let no : length c.args.arrival.messages.items ≡ 0 = none_received bytes c.args.arrival had none in
    grind (arith, no, c.len-count.ensures, c.if-count-ne0.true)
