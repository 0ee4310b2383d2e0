use Rattle.wf_mail.proofs.Split.{joined_reads, joined_breaks, stays_broken}
use Rattle.wf_mail.proofs.stream_theorem.cuts_do_not_matter.Goals as goal

pub returns : goal.returns
returns c = record { reads = joined_reads; breaks = joined_breaks; stays = stays_broken }
