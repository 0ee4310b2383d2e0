use Rattle.wf_mail.proofs.Split.{split_one_way, break_one_way, breaks_or_reads}
use Rattle.wf_mail.proofs.stream_theorem.streams_split_one_way.Goals as goal

pub returns : goal.returns
returns c = record { one = split_one_way; one_error = break_one_way; apart = breaks_or_reads }
