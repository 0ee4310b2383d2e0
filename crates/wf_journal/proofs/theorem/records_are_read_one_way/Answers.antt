use Rattle.std.proofs.Common.{[], refl, sym}
use Rattle.wf_journal.proofs.Lists.{one_reading, reads_only}
use Rattle.wf_journal.proofs.theorem.records_are_read_one_way.Goals as goal

pub returns : goal.returns
returns c = record {
  one = λ bytes records others reads again. one_reading c.one_text_one_map.ensures bytes records others reads.0 again.0 reads.1.splits reads.1.longest again.1.splits again.1.longest;
  none = λ records reads. sym (reads_only c.one_text_one_map.ensures [] [] records refl reads);
}
