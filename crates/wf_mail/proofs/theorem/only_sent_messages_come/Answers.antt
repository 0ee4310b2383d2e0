use Rattle.wf_mail.proofs.Streams.{only_sent_come, all_sent_come, never_breaks}
use Rattle.wf_mail.proofs.theorem.only_sent_messages_come.Goals as goal

pub returns : goal.returns
returns c = record { only = only_sent_come; all = all_sent_come; unbroken = never_breaks }
