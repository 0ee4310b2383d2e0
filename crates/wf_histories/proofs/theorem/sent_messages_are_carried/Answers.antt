use Rattle.wf_histories.proofs.Carried.{sent_are_carried}
use Rattle.wf_histories.proofs.theorem.sent_messages_are_carried.Goals as goal

pub returns : goal.returns
returns c = sent_are_carried c.only_posted_messages_come.ensures
