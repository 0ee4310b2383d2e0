use Rattle.wf_wire.proofs.Ends.{only_posted}
use Rattle.wf_wire.proofs.theorem.only_posted_messages_come.Goals as goal

pub returns : goal.returns
returns c = only_posted c.greetings_are_as_long.ensures c.only_sent_messages_come.ensures.only
