use Rattle.std.proofs.Common.{length}
use Rattle.wf_reader.proofs.reply_encoder.+put_texts.Given as goal

abbrev pub decreases-put_texts : goal.decreases-put_texts
decreases-put_texts l = length l.definitions.now
